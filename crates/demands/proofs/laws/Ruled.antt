-- A nonterminal that has a number has a right side: only lakes are numbered without a rule (01, Notation: "left sides in order, then lakes without a rule").
-- Assumes nothing.
use Rattle.std.specs.Prelude.{ℕ, zero, suc, ◌<◌, ◌≡◌, refl, Bool, true, false, List, [], ◌∷◌, ◌++◌, map, length, get_or, replicate}
use Rattle.std.proofs.Common.{sym, ◌∙◌, true≢false, arith}
use Rattle.std.proofs.Math.Option.{none, some}
use Rattle.read_tokens.specs.declared.Mode.{Mode}
use Rattle.read_tokens.specs.Token.{Symbol, name}
use Rattle.grammar.specs.Exp.{Exp, Rule}
use Rattle.grammar.specs.Same.{same_symbol, is_in, new_in}
use Rattle.grammar.specs.Numbers.{is_lake, left_sides, uses_of, only_lakes, loose_lakes, symbols_of, right_by, numbered}
use Rattle.grammar_table.specs.laws.Rows.{All}
use Rattle.read_syntax.specs.Reading.{rules_of}
use Rattle.prepare.specs.Prepare.{prepared, prepared_by}
use Rattle.demands.specs.Meant.{right_at}

abbrev IsLake : Symbol → Type 0
IsLake h = is_lake h ≡ true

only-all : (l : List Symbol) → All IsLake (only_lakes l)
unfolding only_lakes
only-all [] = tt
only-all (h ∷ l) = go (is_lake h) refl (only-all l)
  where
    go : (b : Bool) → is_lake h ≡ b → All IsLake (only_lakes l) → All IsLake (elim b as (λ _. List Symbol) [ true ↦ h ∷ only_lakes l | false ↦ only_lakes l ])
    go true e a = (e, a)
    go false e a = a

new-all : (seen l : List Symbol) → All IsLake l → All IsLake (new_in same_symbol seen l)
unfolding new_in
new-all seen [] a = tt
new-all seen (h ∷ l) a = go (is_in same_symbol h seen) (new-all seen l a.1) (new-all (h ∷ seen) l a.1)
  where
    go : (b : Bool) → All IsLake (new_in same_symbol seen l) → All IsLake (new_in same_symbol (h ∷ seen) l)
        → All IsLake (elim b as (λ _. List Symbol) [ true ↦ new_in same_symbol seen l | false ↦ h ∷ new_in same_symbol (h ∷ seen) l ])
    go true x y = x
    go false x y = (a.0, y)

lake-at : (l : List Symbol) (r : ℕ) → All IsLake l → r < length l → is_lake (get_or l r (name [])) ≡ true
lake-at [] r a h = absurd (omega arith)
lake-at (x ∷ l) zero a h = a.0
lake-at (x ∷ l) (suc r) a h = lake-at l r a.1 (omega arith)

ruled : (names : List Symbol) (rs : List Rule) (loose : List Symbol) (n : ℕ) → All IsLake loose → (r : ℕ) → r < length (left_sides rs ++ loose) → is_lake (get_or (left_sides rs ++ loose) r (name [])) ≡ false
    → (e : Exp ℕ) × (get_or (map (right_by names) rs ++ replicate n none) r none ≡ some e)
unfolding left_sides
ruled names [] loose n a r h e = absurd (true≢false (sym (lake-at loose r a h) ∙ e))
ruled names (q ∷ rs) loose n a zero h e = (_, refl)
ruled names (q ∷ rs) loose n a (suc r) h e = ruled names rs loose n a r (omega arith) e

pub nonterminal-ruled : (m : Mode) (t : List ℕ) (r : ℕ) → r < length (prepared m t).grammar.names → is_lake (get_or (prepared m t).grammar.names r (name [])) ≡ false
    → (e : Exp ℕ) × (right_at (prepared m t).grammar r ≡ some e)
unfolding prepared prepared_by numbered symbols_of loose_lakes
nonterminal-ruled m t r h e =
    let rs : List Rule = rules_of m t in
    ruled (left_sides rs ++ loose_lakes rs) rs (loose_lakes rs) (length (loose_lakes rs)) (new-all (left_sides rs) (only_lakes (uses_of rs)) (only-all (uses_of rs))) r h e
