-- Laws of the link's state: the exits of the entries, the promise of link health, and cases worked out.
pub mod Exits
pub mod Totals
pub mod Cases
