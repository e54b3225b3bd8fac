-- No terminal of a text that refusals 1 to 5 let through is an empty literal. Assumes nothing.
use Rattle.std.specs.Prelude.{ℕ, ◌<◌, ◌≡◌, refl, false, List, [], ◌∷◌, length, get_or}
use Rattle.std.proofs.Common.{sym, ap, ◌∙◌}
use Rattle.std.proofs.Math.Path.{subst}
use Rattle.read_tokens.specs.declared.Mode.{Mode}
use Rattle.read_tokens.specs.Token.{any}
use Rattle.read_tokens.specs.Tokens.{toks}
use Rattle.grammar.specs.Empty.{empty_leaf}
use Rattle.grammar.specs.Same.{same_leaf}
use Rattle.grammar.specs.Syntax.{Rules}
use Rattle.grammar.specs.Trees.{trees}
use Rattle.grammar.specs.Numbers.{leaves_of, terminals_of, numbered}
use Rattle.grammar_table.specs.laws.Rows.{All, all-at}
use Rattle.read_grammar.specs.steps.Promises.{Sound}
use Rattle.read_grammar.specs.laws.Symbols.{tells-leaves, leaves}
use Rattle.read_grammar.specs.laws.Within.{all-adds}
use Rattle.prepare.specs.laws.Short.{terminals-adds}
use Rattle.prepare.specs.laws.Full.{Full, all-full, full-leaves}

module _ (m : Mode) (s : List ℕ) (g : Rules) (sound : Sound m s g) where
  full-terminals : All Full (terminals_of (trees g))
  unfolding empty_leaf
  full-terminals =
      subst (All Full) (terminals-adds g)
      (all-adds same_leaf Full (any ∷ []) (leaves_of (trees g)) (refl, tt)
      (subst (All Full) (ap leaves (sym sound.reads) ∙ tells-leaves g) (full-leaves (toks m s) (all-full m s))))

  pub none-empty : (i : ℕ) → i < length (numbered (trees g)).terminals → empty_leaf (get_or (numbered (trees g)).terminals i any) ≡ false
  unfolding numbered
  none-empty i h = all-at Full any (terminals_of (trees g)) i full-terminals h
