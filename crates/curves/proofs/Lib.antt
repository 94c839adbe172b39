-- Laws lowest first: order, signs, floors, powers, mantissas, T; then the theorems on branches; and what is computed.
pub mod Order
pub mod Signs
pub mod Floors
pub mod Powers
pub mod Mantissas
pub mod Rises
pub mod Downhill
pub mod Ticks
pub mod Exchange
pub mod Told
pub mod Sample
pub mod Examples
pub mod Mistakes
