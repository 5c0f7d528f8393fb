-- Laws, in reading order: the three demands, which all others serve; then what an accepted sheet of any kind states, judging in stages, the
-- exits of the entries, what an accepted sheet of document 01's kind grants them, and demand 2 in bytes; then what the demands are put
-- together from: conditions as statements, the rules of a certificate, what each entry tries, single refusals, both of the entries that are
-- handed m, the listing's length, and demands 2 and 3 in the words of specs/Published.antt, what the encoder keeps, the choice of a
-- certificate, marked places, shortened codes, and blocks of words.
pub mod Demands
pub mod Accepted
pub mod Judging
pub mod Entries
pub mod Parted
pub mod Ready
pub mod WholeOrShort
pub mod Listed
pub mod RoundTrip
pub mod InTurn
pub mod RuleThree
pub mod Rules
pub mod Tried
pub mod Refusing
pub mod Between
pub mod Fits
pub mod Worded
pub mod Kept
pub mod Chosen
pub mod Uncertain
pub mod Shortened
pub mod Blocks
