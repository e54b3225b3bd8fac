-- What two walks over a text come to: refusal 16, refusal 12, or the nodes written. Assumes nothing.
use Prim.Native.Nat.{ℕ, zero, suc, ◌-◌, ◌/◌, ◌≤◌, ◌<◌}
use Rattle.std.specs.Prelude.{◌≡◌, refl, Bool, true, false, List, ltb, length, Option as Maybe, None, Some, MatchOption, ⊤}
use Rattle.std.proofs.Common.{sym, ap, subst, ◌∙◌, arith, lt-ltb, le-ltb}
use Rattle.std.proofs.Math.Option.{Option, none, some}
use Rattle.read_tokens.specs.Token.{Symbol}
use Rattle.read_tokens.specs.Bounds.{node_words}
use Rattle.match_meaning.specs.Meaning.{Node}
use Rattle.match_list.specs.Nodes.{room_of, written}
use Rattle.prepare.specs.declared.Verdict.TheVariants.{Accepted, Refused}
use Rattle.tree_list.specs.Preorder.{Gap, admits, gaps_behind}
use Rattle.tree_read.specs.declared.Parsed.{Parsed}
use Rattle.tree_read.specs.steps.Puts.{parsed_by, words_by}
use Rattle.tree_read.specs.steps.Walks.{count_of, Walked}

abbrev pub refusal : ℕ → ℕ → Parsed
refusal n p = record { nodes = 0; verdict = Refused n p }

none-some : {n : ℕ} → None ≡ Some n → ⊥
none-some e = subst (λ (o : Maybe ℕ). MatchOption o ⊤ (λ m. ⊥)) e tt

value : ℕ → Maybe ℕ → ℕ
value n None = n
value n (Some m) = m

none_read : (o : Option (List Node)) → None ≡ count_of o → o ≡ none
none_read none e = refl
none_read (some ns) e = absurd (none-some e)

counted : (o : Option (List Node)) (n : ℕ) → Some n ≡ count_of o → (ns : List Node) × (o ≡ some ns) × (length ns ≡ n)
unfolding value
counted none n e = absurd (none-some (sym e))
counted (some ns) n e = (ns, refl, ap (value n) (sym e))

-- ── the answers: the nodes were counted with nothing written ──
module _ (o : Option (List Node)) (old : List ℕ) where
  pub put-none : {ws new : List ℕ} → Walked o ws new None → (refusal 16 0 ≡ parsed_by o old) × (old ≡ words_by o old)
  put-none w =
      let e : o ≡ none = none_read o w.count in
      (sym (ap (λ (u : Option (List Node)). parsed_by u old) e), sym (ap (λ (u : Option (List Node)). words_by u old) e))

  module _ (n room : ℕ) (h : room ≡ room_of old) {ws new : List ℕ} (w : Walked o ws new (Some n)) where
    pub put-few : room < n → (refusal 12 room ≡ parsed_by o old) × (old ≡ words_by o old)
    put-few l =
        let c : (ns : List Node) × (o ≡ some ns) × (length ns ≡ n) = counted o n w.count in
        let g : ltb (room_of old) (length c.0) ≡ true = lt-ltb (room_of old) (length c.0) (omega (arith, h, c.2, l)) in (
          sym (ap (λ (u : Option (List Node)). parsed_by u old) c.1 ∙ rw (g, ← h)),
          sym (ap (λ (u : Option (List Node)). words_by u old) c.1 ∙ rw g),
        )

    pub put_all : {new' : List ℕ} {r : Maybe ℕ} → Walked o old new' r → n ≤ room → (record { nodes = n; verdict = Accepted } ≡ parsed_by o old) × (new' ≡ words_by o old)
    put_all {new'} v l =
        let c : (ns : List Node) × (o ≡ some ns) × (length ns ≡ n) = counted o n w.count in
        let g : ltb (room_of old) (length c.0) ≡ false = le-ltb (room_of old) (length c.0) (omega (arith, h, c.2, l)) in (
          sym (ap (λ (u : Option (List Node)). parsed_by u old) c.1 ∙ rw (g, c.2)),
          v.words c.0 c.1 ∙ sym (ap (λ (u : Option (List Node)). words_by u old) c.1 ∙ rw g),
        )
