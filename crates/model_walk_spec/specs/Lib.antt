-- The order in which steps are tried (Order), the model walk (Walk), what is claimed of it (Claims), and of its text (OnTexts), some cases (Cases), and that it agrees with what is foretold (NotDone).
pub mod Order
pub mod Walk
pub mod Claims
pub mod OnTexts
pub mod Cases
pub mod NotDone
