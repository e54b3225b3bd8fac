-- The lake question on filled cells (01, Meaning of a match). Assumes nothing: these are definitions.
use Rattle.std.specs.Prelude.{ℕ, Bool, true, false, not, cond, ◌&&◌, List, [], ◌∷◌, length, get_or, ltb, eqb}
use Rattle.std.proofs.Math.Option.{Option, none, some}
use Rattle.read_tokens.specs.Token.{Symbol, Leaf}
use Rattle.grammar.specs.Exp.{Exp, sym, ter}
use Rattle.grammar.specs.Numbers.{Grammar, is_lake}
use Rattle.base_words.specs.Set.{member_of}
use Rattle.lake_step_one.specs.Intermediate.{water_in}
use Rattle.lake_plain.specs.Plain.{alternatives}
use Rattle.match_eval.specs.Eval.{ev}

-- none of the alternative symbols matches at p
unfoldable pub none_matches : List ℕ → List ℕ → ℕ → List (Exp ℕ) → ℕ → Bool
none_matches s cs n [] p = true
none_matches s cs n (e ∷ es) p = eqb (ev s cs n e p) 0 && none_matches s cs n es p

-- a right side, if there is one, matches at p
abbrev pub own_takes : List ℕ → List ℕ → ℕ → Option (Exp ℕ) → ℕ → Bool
own_takes s cs n none p = false
own_takes s cs n (some e) p = not (eqb (ev s cs n e p) 0)

-- "a lake tries its own rule, then water, then takes one byte only if no alternative symbol matches there": 1, 2, 3, and 0 for none of them
unfoldable pub way_number : List ℕ → List ℕ → ℕ → Option (Exp ℕ) → Option (Exp ℕ) → List (Exp ℕ) → ℕ → ℕ
way_number s cs n own water ss p =
    elim (own_takes s cs n own p) [
      | true ↦ 1
      | false ↦
          elim (own_takes s cs n water p) [
            | true ↦ 2
            | false ↦
                elim (ltb p (length s) && none_matches s cs n ss p) [ true ↦ 3 | false ↦ 0 ]
          ]
    ]

-- of lake l of a grammar, whose alternative symbols are those of a set
unfoldable pub way_in : Grammar → List ℕ → List ℕ → ℕ → List ℕ → ℕ → ℕ → ℕ
way_in g s cs n set l p = way_number s cs n (get_or g.rights l none) (water_in g) (alternatives g set) p

-- whether symbol i, called h, and terminal i, which is x, are no alternatives or fail at p
abbrev pub symbol_fails : List ℕ → List ℕ → ℕ → List ℕ → ℕ → Symbol → ℕ → Bool
symbol_fails s cs n set i h p = cond (member_of set i && not (is_lake h)) (eqb (ev s cs n (sym i) p) 0) true

abbrev pub terminal_fails : List ℕ → List ℕ → ℕ → List ℕ → ℕ → Leaf → ℕ → Bool
terminal_fails s cs n set k x p = cond (member_of set k) (eqb (ev s cs n (ter x) p) 0) true
