pub mod SteadyCells
