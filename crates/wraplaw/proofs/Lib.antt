-- The laws of wrappers and of readers (`Wrap`) and of lenders (`Lend`), over the parameters that they hand on (`Params`), the MIR that hands them on (`Args`), and walks of MIR whose locals are a list (`Walk`).
pub mod Args
pub mod Lend
pub mod Params
pub mod Walk
pub mod Wrap
