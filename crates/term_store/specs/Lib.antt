pub mod Room
pub mod StoreView
pub mod Slots
pub mod Shown
pub mod Built
pub mod PatternItems
pub mod PatternView
pub mod PatternFalls
pub mod Fitting
pub mod Copying
pub mod RefView
pub mod ClauseView
pub mod TemplateView
-- systems of equations and demands
pub mod SystemView
pub mod Asking
pub mod Signatures
-- labels that are beginnings of others
pub mod Homes
-- those of the program
pub mod HomeView
