-- Laws of the definitions of `match_list`, by the cells and by the rules.
pub mod Lists
pub mod Met
pub mod Whole
