-- `stream::list_sheet` meets its contract: the listing is in the buffer.
use mathlib.Core.Path.{sym}
use lib.Seq.{length-take-le}
use Rattle.stream.specs.declared.TheConstants.{ROOM}
use Rattle.stream.proofs.Streams.{listed_within}
use Rattle.stream.proofs.list_sheet.Goals as goal

pub slice_bounds-out-end : goal.slice_bounds-out-end
slice_bounds-out-end g c = listed_within ROOM _ _ _ c.read_full.auto.buffer c.card_of.auto.out c.card_of.ensures c.in-Ok.is

pub slice_bounds-write_all-end : goal.slice_bounds-write_all-end
slice_bounds-write_all-end g c =
    sym (length-take-le _ _ (listed_within ROOM _ _ _ c.read_full.auto.buffer c.card_of.auto.out c.card_of.ensures c.in-Ok.is))
