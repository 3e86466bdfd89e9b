pub mod ChooseMethod
