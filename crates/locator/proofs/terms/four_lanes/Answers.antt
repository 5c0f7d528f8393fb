-- `locator::terms::four_lanes` meets its contract: four digits, 16 places apart.
use Rattle.locator.proofs.Lanes.{lanes_are}
use Rattle.locator.proofs.terms.four_lanes.Goals as goal

pub returns : goal.returns
returns c = lanes_are c.args.y
