-- Words of the contracts: where loading's tests lead.
pub mod Loading
