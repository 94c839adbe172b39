-- Words of the contracts: the cards' arrays as they are lent and left.
pub mod Lent
