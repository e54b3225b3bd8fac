-- "Only needed parentheses" (01, Writing), of whole texts: a text with one pair fewer than the written one is another grammar or none. Assumes nothing.
use Rattle.std.specs.Prelude.{ℕ, ◌<◌, ◌≡◌, List, ◌∷◌, ◌++◌}
use Rattle.std.proofs.Common.{sym, ap, ◌∙◌, arith}
use Rattle.read_tokens.specs.declared.Mode.{Mode}
use Rattle.read_tokens.specs.Token.{Tok, opens, closes}
use Rattle.read_tokens.specs.Tokens.{toks}
use Rattle.grammar.specs.Exp.{Rule}
use Rattle.read_syntax.specs.Grammar.{GrammarOf}
use Rattle.write_rules.specs.Writing.{text}
use Rattle.write_rules.proofs.laws.Trip.{FineRules, text-written}
use Rattle.write_rules.proofs.laws.Needed.{pairs, needed, dropped}

module _ (m : Mode) (rs : List Rule) (fine : FineRules m rs) where
  -- no text of these rules has fewer pairs than the written one
  pub fewest : (s : List ℕ) → GrammarOf m s rs → pairs (toks m s) < pairs (toks m (text rs)) → ⊥
  fewest s g h = needed rs g.0 (omega (arith, ap pairs g.1, ap pairs (text-written m rs fine), h)) g.2

  -- and without any one of them it is not these rules
  pub each_needed : (u v w : List Tok) → toks m (text rs) ≡ u ++ (opens ∷ (v ++ (closes ∷ w))) → (s : List ℕ) → toks m s ≡ u ++ (v ++ w) → GrammarOf m s rs → ⊥
  each_needed u v w e s q g = dropped rs u v w (sym (text-written m rs fine) ∙ e) g.0 (g.1 ∙ q) g.2
