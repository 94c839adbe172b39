-- Words of inner contracts: what placing's tests give.
pub mod Placing
