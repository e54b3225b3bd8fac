-- The names of a text that refusal 3 lets through have at most 38 bytes, and its literals at most 256. Assumes nothing.
use Rattle.std.specs.Prelude.{ℕ, ◌≤◌, ◌≡◌, true, false, List, [], ◌∷◌, get_or}
use Rattle.std.proofs.Math.Path.{refl, subst}
use Rattle.std.proofs.Common.{sym, ap, ◌∙◌, arith}
use Rattle.read_tokens.specs.declared.Mode.{Mode}
use Rattle.read_tokens.specs.Token.{Symbol, name, lake, Leaf, any, literal, class}
use Rattle.read_tokens.specs.Tokens.{toks, lexemes}
use Rattle.grammar.specs.Same.{same_symbol, same_leaf}
use Rattle.grammar.specs.Syntax.{Rules, tokens}
use Rattle.grammar.specs.Trees.{trees}
use Rattle.grammar.specs.Numbers.{symbols_of, leaves_of, terminals_of, numbered}
use Rattle.read_syntax.specs.Machine.{start}
use Rattle.grammar_table.specs.laws.Rows.{adds, All, all-at}
use Rattle.grammar_table.specs.laws.Firsts.{adds-front}
use Rattle.read_entries.specs.steps.Entries.{FitSymbol, FitLeaf}
use Rattle.read_grammar.specs.steps.Lay.{gathered}
use Rattle.read_grammar.specs.steps.Promises.{toks_at, Sound}
use Rattle.read_grammar.specs.laws.Symbols.{tells-leaves, leaves}
use Rattle.read_grammar.specs.laws.Within.{FitTok, all_fit, fit-gathered, fit-leaves, all-adds}
use Rattle.read_grammar.specs.laws.Whole.{all-names}
use Rattle.lake_step_one.specs.steps.Made.{Short, name_size, leaf_size}

name-short : (h : Symbol) → FitSymbol h → name_size h ≤ 38
unfolding FitSymbol
name-short (name w) f = f
name-short (lake w) f = f

leaf-short : (x : Leaf) → FitLeaf x → leaf_size x ≤ 256
unfolding FitLeaf
leaf-short any f = omega arith
leaf-short (literal w) f = f
leaf-short (class l) f = omega arith

-- the terminals by number are `.` and then those of the text, each where it is new
pub terminals-adds : (g : Rules) → adds same_leaf (any ∷ []) (leaves_of (trees g)) ≡ terminals_of (trees g)
unfolding terminals_of
terminals-adds g = adds-front same_leaf (any ∷ []) (leaves_of (trees g))

module _ (m : Mode) (s : List ℕ) (g : Rules) (sound : Sound m s g) where
  pub from_start : toks_at m s 0 ≡ toks m s
  unfolding toks lexemes
  from_start = refl

  pub to-tokens : toks_at m s 0 ≡ tokens g
  to-tokens = from_start ∙ sym sound.reads

  fit_all : All FitTok (toks_at m s 0)
  fit_all = subst (All FitTok) (sym from_start) (all_fit m s 0 start sound.bounded)

  fit-names : All FitSymbol (symbols_of (trees g))
  fit-names =
      subst (All FitSymbol) (all-names m s g sound)
      (all-adds same_symbol FitSymbol (adds same_symbol [] (gathered false (toks_at m s 0))) (gathered true (toks_at m s 0))
      (all-adds same_symbol FitSymbol [] (gathered false (toks_at m s 0)) tt (fit-gathered false (toks_at m s 0) fit_all))
      (fit-gathered true (toks_at m s 0) fit_all))

  fit-terms : All FitLeaf (terminals_of (trees g))
  unfolding FitLeaf
  fit-terms =
      subst (All FitLeaf) (terminals-adds g)
      (all-adds same_leaf FitLeaf (any ∷ []) (leaves_of (trees g)) (tt, tt)
      (subst (All FitLeaf) (ap leaves to-tokens ∙ tells-leaves g) (fit-leaves (toks_at m s 0) fit_all)))

  pub short : Short (numbered (trees g))
  unfolding numbered
  short = record {
    names = λ r h. name-short (get_or (symbols_of (trees g)) r (name [])) (all-at FitSymbol (name []) (symbols_of (trees g)) r fit-names h);
    literals = λ x h. leaf-short (get_or (terminals_of (trees g)) x any) (all-at FitLeaf any (terminals_of (trees g)) x fit-terms h);
  }
