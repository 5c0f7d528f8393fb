-- `locator::locate::locate` meets its contract: the terms are listed, and the places searched, four at a time for f = 1 + x.
use native.Mathlib.Omega.{arith}
use mathlib.Core.Path.{ap}
use Prim.Native.Nat.{ℕ, ◌/◌}
use Rattle.locator.proofs.Reading.{listed_cut}
use Rattle.locator.proofs.Searching.{multiple_lt, multiple_fits, listable, logged_by, places_by, located, located_alone}
use Rattle.locator.proofs.locate.locate.Goals as goal

pub overflow_mul-back : goal.overflow_mul-back
overflow_mul-back c = let p = c.requires in record { fits = multiple_fits c.args.tables.now.filled p (ap (λ (x : ℕ). x / c.args.n) c.order.ensures) (omega (arith, p.z_lo, p.odd.least)) }

pub list_terms-count-requires : goal.list_terms-count-requires
list_terms-count-requires c = let p = c.requires in listable c.args.tables.now.filled p (multiple_lt c.args.tables.now.filled p (ap (λ (x : ℕ). x / c.args.n) c.order.ensures) (omega (arith, p.z_lo, p.odd.least)))

pub invariant_of-list : goal.invariant_of-list
invariant_of-list c = let l = c.list_terms-count in
    let v = listed_cut l.new.terms l.new.lanes l.ensures in
    record { listed = logged_by c.power_table.ensures.0 v.listed }

pub search_fours-requires : goal.search_fours-requires
search_fours-requires c = places_by c.power_table.ensures.0 c.args.tables.now.filled c.requires

pub returns-then-u-eq1 : goal.returns-then-u-eq1
returns-then-u-eq1 c = let l = c.list_terms-count in
    let v = listed_cut l.new.terms l.new.lanes l.ensures in
    located_alone c.args.tables.now.filled c.requires (ap (λ (x : ℕ). x / c.args.n) c.order.ensures) c.power_table.ensures.0 v c.if-u-eq1.true c.search_fours.ensures

pub invariant_of-list-2 : goal.invariant_of-list-2
invariant_of-list-2 c = let l = c.list_terms-count in
    let v = listed_cut l.new.terms l.new.lanes l.ensures in
    record { listed = logged_by c.power_table.ensures.0 v.listed }

pub invariant_of-search : goal.invariant_of-search
invariant_of-search c = let l = c.list_terms-count in
    let v = listed_cut l.new.terms l.new.lanes l.ensures in
    record { laned = v.laned }

pub search-requires : goal.search-requires
search-requires c = places_by c.power_table.ensures.0 c.args.tables.now.filled c.requires

pub returns : goal.returns
returns c = let l = c.list_terms-count in
    let v = listed_cut l.new.terms l.new.lanes l.ensures in
    located c.args.tables.now.filled c.requires (ap (λ (x : ℕ). x / c.args.n) c.order.ensures) c.power_table.ensures.0 v c.search.ensures
