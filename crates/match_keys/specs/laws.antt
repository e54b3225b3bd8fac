-- Laws of the definitions of match_eval.
pub mod Keys
