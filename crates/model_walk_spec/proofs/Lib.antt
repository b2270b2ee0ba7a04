-- The steps in their order (Order), what is claimed of the model walk (Claims), and of its text (OnTexts), some cases (Cases), and that it agrees with what is foretold (NotDone).
pub mod Order
pub mod Claims
pub mod OnTexts
pub mod Cases
pub mod NotDone
