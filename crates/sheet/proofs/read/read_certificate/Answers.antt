-- `sheet::read::read_certificate` meets its contract: the bytes of certificate i stand within the sheet.
use native.Mathlib.Omega.{arith}
use Rattle.document.specs.Short.{short}
use Rattle.sheet.proofs.Reading.{within, certificate_read, read_is}
use Rattle.sheet.proofs.read.read_certificate.Goals as goal

pub overflow_mul-at : goal.overflow_mul-at
overflow_mul-at c = let w = within c.requires.0 c.requires.1 in omega (arith, w.four)

pub overflow_add-at-2 : goal.overflow_add-at-2
overflow_add-at-2 c = let w = within c.requires.0 c.requires.1 in omega (arith, w.four)

pub byte-b-requires : goal.byte-b-requires
byte-b-requires c = let w = within c.requires.0 c.requires.1 in omega (arith, w.fits, c.byte.ensures.0)

pub overflow_add-at-3 : goal.overflow_add-at-3
overflow_add-at-3 c = let w = within c.requires.0 c.requires.1 in omega (arith, w.four)

pub byte-z-requires : goal.byte-z-requires
byte-z-requires c = let w = within c.requires.0 c.requires.1 in omega (arith, w.fits, c.byte.ensures.0)

pub overflow_add-at-4 : goal.overflow_add-at-4
overflow_add-at-4 c = let w = within c.requires.0 c.requires.1 in omega (arith, w.four)

pub number-f-requires : goal.number-f-requires
number-f-requires c = let w = within c.requires.0 c.requires.1 in omega (arith, w.fits, c.byte.ensures.0)

pub overflow_add-at-5 : goal.overflow_add-at-5
overflow_add-at-5 c = let w = within c.requires.0 c.requires.1 in omega (arith, w.four)

pub byte-h-requires : goal.byte-h-requires
byte-h-requires c = let w = within c.requires.0 c.requires.1 in omega (arith, w.fits, c.byte.ensures.0)

pub overflow_add-at-6 : goal.overflow_add-at-6
overflow_add-at-6 c = let w = within c.requires.0 c.requires.1 in omega (arith, w.four)

pub byte-zero-requires : goal.byte-zero-requires
byte-zero-requires c = let w = within c.requires.0 c.requires.1 in omega (arith, w.fits, c.byte.ensures.0)

pub overflow_add-at-7 : goal.overflow_add-at-7
overflow_add-at-7 c = let w = within c.requires.0 c.requires.1 in omega (arith, w.four)

pub number-terms-requires : goal.number-terms-requires
number-terms-requires c = let w = within c.requires.0 c.requires.1 in omega (arith, w.fits, c.byte.ensures.0)

pub returns : goal.returns
returns c = certificate_read short _ c.requires.1 (read_is c.args.sheet.now c.args.i c.byte.ensures.0 c.byte-b.ensures.0 c.byte-z.ensures.0 c.number-f.ensures.0 c.byte-h.ensures.0 c.byte-zero.ensures.0 c.number-terms.ensures.0)
