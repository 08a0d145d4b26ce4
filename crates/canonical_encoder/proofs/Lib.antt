pub mod Edges
pub mod Ends
pub mod Firsts
pub mod Placed
pub mod Told
pub mod Walking
pub mod Wires
