-- Demand 1, call by call: what an answer says, by its list of checks (01, Refusal numbers, in order of check). Assumes nothing.
use Rattle.std.specs.Prelude.{ℕ, ◌≡◌, not, ◌&&◌, List, length, ltb, leb}
use Rattle.std.proofs.Math.Path.{refl, ap}
use Rattle.std.proofs.Common.{sym, ◌∙◌}
use Rattle.std.proofs.Math.Option.{Option, none, some}
use Rattle.read_tokens.specs.declared.Mode.{Mode}
use Rattle.grammar.specs.Refusal.{Refusal, refusal, refuse_if, ◌▸◌}
use Rattle.lake_rules.specs.Analysis.{is_expression}
use Rattle.prepare.specs.Prepare.{prepared, refuses}
use Rattle.prepare.specs.Reads.{verdict_of, read_by, read_of}
use Rattle.prepare.specs.laws.Loads.{some-none}
use Rattle.gurkenmond.specs.Answers.{verdict_says}
use Rattle.gurkenmond.specs.Calls.{sets_by, sets_of, lakes_by, cannot_skip_of, Matching, refuses_input, match_of, is_lake_at, lake_after, lake_of, write_after, write_own_of, write_plain_of, is_symbol, symbol_name_of}
use Rattle.demands.specs.Rows.{Row}
use Rattle.demands.specs.Checks.{checks, match_checks, lake_checks, sets_checks, write_checks, own_text, plain_text, name_text, name_checks}
use Rattle.demands.specs.Meets.{Meets, fails, takes, too-deep, no_room}
use Rattle.demands.specs.Meets.{refused as refused-early}
use Rattle.demands.specs.Demands.{refused_in, Refuses}
use Rattle.demands.proofs.laws.Chain.{Tells}
use Rattle.demands.proofs.laws.Late.{match-chain}
use Rattle.demands.proofs.laws.Meets.{match-meets}
use Rattle.demands.proofs.laws.Refusals.{one-to-eight, lake-chain, sets-chain, write-chain, name-chain}

-- an answer whose verdict is a check: where the check refuses, nothing lent is touched
pub by-check : {l : List Row} {o : Option Refusal} (t : Tells l o) (v : Option Refusal) (U : Type 0) → v ≡ o → ((r : Refusal) → o ≡ some r → U)
    → Refuses v l U
by-check t v U q u =
    record {
      exactly = λ k p. (λ e. t.says (refusal k p) (sym q ∙ e), λ x. q ∙ t.first x);
      untouched = λ k p e. u (refusal k p) (sym q ∙ e);
    }

module _ (m : Mode) (t : List ℕ) where
  pub read-exactly : Refuses (verdict_says (read_of m t).verdict) (checks m t) (Unit {0})
  unfolding read_of verdict_of
  read-exactly = by-check (one-to-eight m t) (verdict_says (read_by (refuses m t) (prepared m t)).verdict) (Unit {0}) (go (refuses m t)) (λ r e. tt)
    where
      go : (o : Option Refusal) → verdict_says (read_by o (prepared m t)).verdict ≡ o
      go none = refl
      go (some r) = refl

  pub cannot-skip-exactly : Refuses (verdict_says (cannot_skip_of m t).verdict) (checks m t) (Unit {0})
  unfolding cannot_skip_of verdict_of
  cannot-skip-exactly =
      by-check (one-to-eight m t) (verdict_says (lakes_by (refuses m t) (prepared m t)).verdict) (Unit {0}) (go (refuses m t)) (λ r e. tt)
    where
      go : (o : Option Refusal) → verdict_says (lakes_by o (prepared m t)).verdict ≡ o
      go none = refl
      go (some r) = refl

  module _ (i : ℕ) where
    abbrev sets-check : Option Refusal
    sets-check = refuses m t ▸ refuse_if (not (is_expression (prepared m t).analysis i)) 14 0

    pub sets-exactly : Refuses (verdict_says (sets_of m t i).verdict) (sets_checks m t i) (Unit {0})
    unfolding sets_of verdict_of
    sets-exactly = by-check (sets-chain m t i) (verdict_says (sets_by sets-check (prepared m t).analysis i).verdict) (Unit {0}) (go sets-check) (λ r e. tt)
      where
        go : (o : Option Refusal) → verdict_says (sets_by o (prepared m t).analysis i).verdict ≡ o
        go none = refl
        go (some r) = refl

  module _ (s cs ws : List ℕ) where
    none-some : {r : Refusal} → none ≡ some r → ⊥
    none-some {r} e = some-none r (sym e)

    -- a refusal writes no node
    no_node : {x : Matching} → Meets m t s cs ws x → (r : Refusal) → refused_in x.answer.outcome ≡ some r → x.nodes ≡ ws
    no_node (refused-early f) r e = refl
    no_node (fails z a d) r e = refl
    no_node (takes z a d f b) r e = absurd (none-some e)
    no_node (too-deep z a d f) r e = refl
    no_node (no_room z a d f) r e = refl

    pub match-exactly : Refuses (refused_in (match_of m t s cs ws).answer.outcome) (match_checks m t s cs ws) ((match_of m t s cs ws).nodes ≡ ws)
    match-exactly =
        by-check (match-chain m t s cs ws) (refused_in (match_of m t s cs ws).answer.outcome) ((match_of m t s cs ws).nodes ≡ ws) refl
        (λ r e. no_node (match-meets m t s cs ws) r e)

  module _ (s cs : List ℕ) (l q : ℕ) where
    abbrev lake-check : Option Refusal
    lake-check = refuses m t ▸ (refuses_input (prepared m t) s cs ▸ refuse_if (not (is_lake_at (prepared m t) l && leb q (length s))) 14 0)

    pub lake-exactly : Refuses (lake_of m t s cs l q).verdict (lake_checks m t s cs l q) ((lake_of m t s cs l q).cells ≡ cs)
    unfolding lake_of
    lake-exactly =
        by-check (lake-chain m t s cs l q) (lake_after lake-check (prepared m t) s cs l q).verdict ((lake_after lake-check (prepared m t) s cs l q).cells ≡ cs)
        (go lake-check) (λ r e. ap (λ (o : Option Refusal). (lake_after o (prepared m t) s cs l q).cells) e)
      where
        go : (o : Option Refusal) → (lake_after o (prepared m t) s cs l q).verdict ≡ o
        go none = refl
        go (some r) = refl

  module _ (w out : List ℕ) where
    -- whatever is checked before: a refusal leaves the room
    pub room-exactly : {l : List Row} (o : Option Refusal) → Tells l o → Refuses (write_after o w out).verdict l ((write_after o w out).out ≡ out)
    room-exactly o tells =
        by-check tells (write_after o w out).verdict ((write_after o w out).out ≡ out) (go o) (λ r e. ap (λ (c : Option Refusal). (write_after c w out).out) e)
      where
        go : (c : Option Refusal) → (write_after c w out).verdict ≡ c
        go none = refl
        go (some r) = refl

    abbrev room-check : Option Refusal → Option Refusal
    room-check o = o ▸ refuse_if (ltb (length out) (length w)) 13 (length w)

    write-exactly : let o : Option Refusal = room-check (refuses m t) in Refuses (write_after o w out).verdict (write_checks m t w out) ((write_after o w out).out ≡ out)
    write-exactly = room-exactly (room-check (refuses m t)) (write-chain m t w out)

  pub own-exactly : (out : List ℕ) → Refuses (write_own_of m t out).verdict (write_checks m t (own_text m t) out) ((write_own_of m t out).out ≡ out)
  unfolding write_own_of
  own-exactly out = write-exactly (own_text m t) out

  pub plain-exactly : (out : List ℕ) → Refuses (write_plain_of m t out).verdict (write_checks m t (plain_text m t) out) ((write_plain_of m t out).out ≡ out)
  unfolding write_plain_of
  plain-exactly out = write-exactly (plain_text m t) out

  pub name-exactly : (r : ℕ) (out : List ℕ) → Refuses (symbol_name_of m t r out).verdict (name_checks m t r out) ((symbol_name_of m t r out).out ≡ out)
  unfolding symbol_name_of
  name-exactly r out =
      room-exactly (name_text m t r) out (room-check (name_text m t r) out (refuses m t ▸ refuse_if (not (is_symbol (prepared m t) r)) 14 0)) (name-chain m t r out)
