-- `syndrome::columns::value_by_columns` meets its contract: Horner's rule over the four lane_sums.
use native.Mathlib.Omega.{arith}
use Rattle.syndrome.proofs.Lanes.{lane_0, lane_1, lane_2, lane_3}
use Rattle.syndrome.proofs.Horner.{lane_lt, sum_lt, valued}
use Rattle.syndrome.proofs.columns.value_by_columns.Goals as goal

pub scaled-requires : goal.scaled-requires
scaled-requires c = let p = c.requires in
    let d = c.args.tables.now.filled.degree in
    (omega (arith, p.by_lt), lane_lt d p c.lane_sums-a.ensures 3 (omega arith) (lane_3 _))

pub scaled-requires-2 : goal.scaled-requires-2
scaled-requires-2 c = let p = c.requires in
    let d = c.args.tables.now.filled.degree in
    (omega (arith, p.by_lt), sum_lt d p c.lane_sums-a.ensures 2 _ (omega arith) (lane_2 _) c.scaled.ensures)

pub scaled-requires-3 : goal.scaled-requires-3
scaled-requires-3 c = let p = c.requires in
    let d = c.args.tables.now.filled.degree in
    (omega (arith, p.by_lt), sum_lt d p c.lane_sums-a.ensures 1 _ (omega arith) (lane_1 _) c.scaled-2.ensures)

pub returns : goal.returns
returns c = let d = c.args.tables.now.filled.degree in
    valued d c.requires c.lane_sums-a.ensures (lane_0 _) (lane_1 _) (lane_2 _) (lane_3 _) c.scaled.ensures c.scaled-2.ensures c.scaled-3.ensures
