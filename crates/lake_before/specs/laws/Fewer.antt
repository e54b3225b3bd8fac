-- Fewer alternatives: where one set lies within another, the lake's alternatives are among the other's, in order. Assumes nothing.
use Rattle.std.specs.Prelude.{ℕ, zero, suc, ◌+◌, ◌/◌, ◌%◌, ◌≤◌, ◌≡◌, refl, Bool, true, false, ◌&&◌, length, get_or}
use Rattle.std.proofs.Math.Bool.{not}
use Rattle.std.proofs.lemmas.Bool.{false≢true}
use mathlib.Core.List.{List, [], ◌∷◌, ◌++◌}
use Rattle.std.proofs.Common.{arith, eqb-true, eq-eqb}
use Rattle.std.proofs.Math.ListN.{get_or-eq_default}
use Rattle.base_facts.specs.laws.Bools.{and_parts, and_both}
use Rattle.base_words.specs.Set.{bit, member_of}
use Rattle.base_words.specs.laws.Members.{bit-lt}
use Rattle.base_words.specs.laws.Order.{bit-none}
use Rattle.base_rounds.specs.Sets.{In2}
use Rattle.read_tokens.specs.Token.{Symbol, Leaf}
use Rattle.grammar.specs.Exp.{Exp, sym as uses, ter}
use Rattle.grammar.specs.Numbers.{Grammar, is_lake}
use Rattle.lake_plain.specs.Plain.{nonterminals_in, terminals_in, alternatives}
use Rattle.lake_rules.proofs.laws.Marks.{Imp}

-- the first list is the second, with some left out
pub data Among : List (Exp ℕ) → List (Exp ℕ) → Type 0 where
  done : Among [] []
  keep : {a : Exp ℕ} {xs ys : List (Exp ℕ)} → Among xs ys → Among (a ∷ xs) (a ∷ ys)
  leave : {a : Exp ℕ} {xs ys : List (Exp ℕ)} → Among xs ys → Among xs (a ∷ ys)

among-both : {xs ys us vs : List (Exp ℕ)} → Among xs ys → Among us vs → Among (xs ++ us) (ys ++ vs)
among-both done q = q
among-both (keep p) q = keep (among-both p q)
among-both (leave p) q = leave (among-both p q)

pick : (b c : Bool) (a : Exp ℕ) (xs ys : List (Exp ℕ)) → Imp b c → Among xs ys
    → Among (elim b as (λ _. List (Exp ℕ)) [ true ↦ a ∷ xs | false ↦ xs ]) (elim c as (λ _. List (Exp ℕ)) [ true ↦ a ∷ ys | false ↦ ys ])
pick true true a xs ys h p = keep p
pick true false a xs ys h p = absurd (false≢true (h refl))
pick false true a xs ys h p = leave p
pick false false a xs ys h p = p

-- ── of two words each ──
module _ (s u : List ℕ) (two : length s ≡ 2) (h : In2 s u) where
  bit_in : (w k : ℕ) → bit (get_or s w 0) k ≤ bit (get_or u w 0) k
  bit_in zero k = h.first k
  bit_in (suc zero) k = h.second k
  bit_in (suc (suc w)) k = rw (get_or-eq_default s 0 {n = suc (suc w)} (omega arith), bit-none k) (omega arith)

  member-in : (k : ℕ) → Imp (member_of s k) (member_of u k)
  member-in k e =
      let p : bit (get_or s (k / 64) 0) (k % 64) ≡ 1 = eqb-true (bit (get_or s (k / 64) 0) (k % 64)) 1 e in
      eq-eqb (bit (get_or u (k / 64) 0) (k % 64)) 1 (omega (arith, p, bit_in (k / 64) (k % 64), bit-lt (get_or u (k / 64) 0) (k % 64)))

  nonterminals-in : (i : ℕ) (hs : List Symbol) → Among (nonterminals_in s i hs) (nonterminals_in u i hs)
  unfolding nonterminals_in
  nonterminals-in i [] = done
  nonterminals-in i (x ∷ hs) =
      pick (member_of s i && not (is_lake x)) (member_of u i && not (is_lake x)) (uses i) (nonterminals_in s (suc i) hs) (nonterminals_in u (suc i) hs)
      (λ e. let q = and_parts (member_of s i) (not (is_lake x)) e in and_both (member_of u i) (not (is_lake x)) (member-in i q.0) q.1) (nonterminals-in (suc i) hs)

  terminals-in : (i : ℕ) (xs : List Leaf) → Among (terminals_in s i xs) (terminals_in u i xs)
  unfolding terminals_in
  terminals-in i [] = done
  terminals-in i (x ∷ xs) =
      pick (member_of s (64 + i)) (member_of u (64 + i)) (ter x) (terminals_in s (suc i) xs) (terminals_in u (suc i) xs) (member-in (64 + i)) (terminals-in (suc i) xs)

  pub alternatives-in : (g : Grammar) → Among (alternatives g s) (alternatives g u)
  unfolding alternatives
  alternatives-in g = among-both (nonterminals-in 0 g.names) (terminals-in 0 g.terminals)
