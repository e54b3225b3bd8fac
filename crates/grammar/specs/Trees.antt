-- The rules of a concrete syntax as trees (01, Notation: "Choice and sequence associate to the left"). Assumes nothing: these are definitions.
use Rattle.std.specs.Prelude.{List, [], ◌∷◌, ◌++◌}
use Rattle.read_tokens.specs.Token.{Symbol, Leaf, Prefix, Suffix, amp, bang, query, asterisk, cross}
use Rattle.grammar.specs.Syntax.{Choice, Sequence, Prefixed, Suffixed, Primary, Rules, one, or, first, next, bare, with, only, then, psym}
use Rattle.grammar.specs.Syntax.{term, group, rule, more}
use Rattle.grammar.specs.Exp.{Exp, Rule, sym, ter, seq, alt, opt, star, plus, ahead, never}

abbrev pub prefixed : Prefix → Exp Symbol → Exp Symbol
prefixed amp e = ahead e
prefixed bang e = never e

abbrev pub suffixed : Suffix → Exp Symbol → Exp Symbol
suffixed query e = opt e
suffixed asterisk e = star e
suffixed cross e = plus e

unfoldable mutual
  pub tree_c : Choice → Exp Symbol
  tree_c (one s) = tree_s s
  tree_c (or c s) = alt (tree_c c) (tree_s s)

  pub tree_s : Sequence → Exp Symbol
  tree_s (first p) = tree_p p
  tree_s (next s p) = seq (tree_s s) (tree_p p)

  pub tree_p : Prefixed → Exp Symbol
  tree_p (bare e) = tree_f e
  tree_p (with x e) = prefixed x (tree_f e)

  pub tree_f : Suffixed → Exp Symbol
  tree_f (only q) = tree_q q
  tree_f (then q x) = suffixed x (tree_q q)

  pub tree_q : Primary → Exp Symbol
  tree_q (psym h) = sym h
  tree_q (term x) = ter x
  tree_q (group c) = tree_c c

abbrev pub ruled : Symbol → Exp Symbol → Rule
ruled h e = record { left = h; right = e }

unfoldable pub trees : Rules → List Rule
trees (rule h c) = ruled h (tree_c c) ∷ []
trees (more r h c) = trees r ++ (ruled h (tree_c c) ∷ [])
