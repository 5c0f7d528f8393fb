-- `field_figures::elements::order` meets its contract: 2^s - 1 is an odd length.
use Rattle.field_figures.proofs.Laws.{order_odd}
use Rattle.field_figures.proofs.elements.order.Goals as goal

pub order_of_two-requires : goal.order_of_two-requires
order_of_two-requires c = order_odd c.requires c.order.ensures
