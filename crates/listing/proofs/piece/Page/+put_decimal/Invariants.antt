-- `listing::piece::Page::put_decimal` ends: x / 10 is smaller.
use Rattle.listing.proofs.piece.Page.+put_decimal.Given as goal

abbrev pub decreases-put_decimal : goal.decreases-put_decimal
decreases-put_decimal l = l.x
