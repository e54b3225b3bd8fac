-- A grammar's tokens are accepted by the automaton. Assumes nothing.
use Rattle.std.specs.Prelude.{ℕ, suc, ◌≡◌, refl, true, List, [], ◌∷◌, ◌++◌}
use Rattle.std.proofs.Common.{sym, ap, ◌∙◌}
use Rattle.std.proofs.Math.Option.{Option, none, some}
use Rattle.read_tokens.specs.Token.{Symbol, Leaf, Prefix, Suffix, Tok, symbol, leaf, pre, suf, arrow, slash, opens, closes}
use Rattle.grammar.specs.Syntax.{Choice, one, or, Sequence, first, next, Prefixed, bare, with, Suffixed, only, then, Primary, psym, term, group, Rules, rule, more, choice_toks, seq_toks, pref_toks, suf_toks, prim_toks, tokens, Grammatical}
use Rattle.read_syntax.specs.Machine.{State, start, need, bound, prim, part, maybe, close, new_rule, after, step, accepting, stepped, state_after, accepts}

pub runs_append : (o : Option State) (l m : List Tok) → state_after o (l ++ m) ≡ state_after (state_after o l) m
unfolding state_after
runs_append o [] m = refl
runs_append o (t ∷ l) m = runs_append (stepped o t) l m

pub runs-dead : (l : List Tok) → state_after none l ≡ none
unfolding state_after
runs-dead [] = refl
runs-dead (t ∷ l) = runs-dead l

-- a state in which a part has ended; in which a part may begin; in which a primary may begin; in which a primary has ended
pub data Done (d : ℕ) : State → Type 0 where
  by-prim : Done d (prim d)
  by_part : Done d (part d)
  by-maybe : Done d (maybe d)

data Ready (d : ℕ) : State → Type 0 where
  by-need : Ready d (need d)
  by-done : {s : State} → Done d s → Ready d s

data Takes (d : ℕ) : State → Type 0 where
  by-bound : Takes d (bound d)
  by-ready : {s : State} → Ready d s → Takes d s

data Ended (d : ℕ) : State → Type 0 where
  as-prim : Ended d (prim d)
  as-maybe : Ended d (maybe d)

ended-done : {d : ℕ} {s : State} → Ended d s → Done d s
ended-done as-prim = by-prim
ended-done as-maybe = by-maybe

-- from s the tokens w lead to a state of the kind
abbrev Leads : (State → Type 0) → State → List Tok → Type 0
Leads K s w = (s' : State) × K s' × (state_after (some s) w ≡ some s')

on : {K : State → Type 0} {s₁ : State} (s : State) (w v : List Tok) → state_after (some s) w ≡ some s₁ → Leads K s₁ v → Leads K s (w ++ v)
on s w v e (x) = (x.0, x.1, runs_append (some s) w v ∙ ap (λ (o : Option State). state_after o v) e ∙ x.2)

symbol-leads : {d : ℕ} {s : State} (h : Symbol) → Takes d s → Leads (Ended d) s (symbol h ∷ [])
unfolding state_after step after
symbol-leads h by-bound = (_, as-prim, refl)
symbol-leads h (by-ready by-need) = (_, as-prim, refl)
symbol-leads h (by-ready (by-done by-prim)) = (_, as-maybe, refl)
symbol-leads h (by-ready (by-done by_part)) = (_, as-maybe, refl)
symbol-leads h (by-ready (by-done by-maybe)) = (_, as-maybe, refl)

leaf-leads : {d : ℕ} {s : State} (x : Leaf) → Takes d s → Leads (Ended d) s (leaf x ∷ [])
unfolding state_after step after
leaf-leads x by-bound = (_, as-prim, refl)
leaf-leads x (by-ready by-need) = (_, as-prim, refl)
leaf-leads x (by-ready (by-done by-prim)) = (_, as-prim, refl)
leaf-leads x (by-ready (by-done by_part)) = (_, as-prim, refl)
leaf-leads x (by-ready (by-done by-maybe)) = (_, as-prim, refl)

open-leads : {d : ℕ} {s : State} → Takes d s → state_after (some s) (opens ∷ []) ≡ some (need (suc d))
unfolding state_after step after
open-leads by-bound = refl
open-leads (by-ready by-need) = refl
open-leads (by-ready (by-done by-prim)) = refl
open-leads (by-ready (by-done by_part)) = refl
open-leads (by-ready (by-done by-maybe)) = refl

pre-leads : {d : ℕ} {s : State} (x : Prefix) → Ready d s → state_after (some s) (pre x ∷ []) ≡ some (bound d)
unfolding state_after step after
pre-leads x by-need = refl
pre-leads x (by-done by-prim) = refl
pre-leads x (by-done by_part) = refl
pre-leads x (by-done by-maybe) = refl

suf-leads : {d : ℕ} {s : State} (x : Suffix) → Ended d s → Leads (Done d) s (suf x ∷ [])
unfolding state_after step after
suf-leads x as-prim = (_, by_part, refl)
suf-leads x as-maybe = (_, by_part, refl)

close-leads : {d : ℕ} {s : State} → Done (suc d) s → Leads (Ended d) s (closes ∷ [])
unfolding state_after step after close
close-leads by-prim = (_, as-prim, refl)
close-leads by_part = (_, as-prim, refl)
close-leads by-maybe = (_, as-prim, refl)

slash-leads : {d : ℕ} {s : State} → Done d s → state_after (some s) (slash ∷ []) ≡ some (need d)
unfolding state_after step after
slash-leads by-prim = refl
slash-leads by_part = refl
slash-leads by-maybe = refl

mutual
  unfolding choice_toks

  choice-leads : (c : Choice) (d : ℕ) → Leads (Done d) (need d) (choice_toks c)
  choice-leads (one s) d = seq-leads s d
  choice-leads (or c s) d =
      let x = choice-leads c d in
      on (need d) (choice_toks c) (slash ∷ seq_toks s) x.2 (on x.0 (slash ∷ []) (seq_toks s) (slash-leads x.1) (seq-leads s d))

  seq-leads : (s : Sequence) (d : ℕ) → Leads (Done d) (need d) (seq_toks s)
  seq-leads (first p) d = pref-leads p d (need d) by-need
  seq-leads (next s p) d = let x = seq-leads s d in on (need d) (seq_toks s) (pref_toks p) x.2 (pref-leads p d x.0 (by-done x.1))

  pref-leads : (p : Prefixed) (d : ℕ) (s : State) → Ready d s → Leads (Done d) s (pref_toks p)
  pref-leads (bare e) d s r = sufd-leads e d s (by-ready r)
  pref-leads (with x e) d s r = on s (pre x ∷ []) (suf_toks e) (pre-leads x r) (sufd-leads e d (bound d) by-bound)

  sufd-leads : (e : Suffixed) (d : ℕ) (s : State) → Takes d s → Leads (Done d) s (suf_toks e)
  sufd-leads (only q) d s r = let x = prim-leads q d s r in (x.0, ended-done x.1, x.2)
  sufd-leads (then q y) d s r = let x = prim-leads q d s r in on s (prim_toks q) (suf y ∷ []) x.2 (suf-leads y x.1)

  prim-leads : (q : Primary) (d : ℕ) (s : State) → Takes d s → Leads (Ended d) s (prim_toks q)
  prim-leads (psym h) d s r = symbol-leads h r
  prim-leads (term x) d s r = leaf-leads x r
  prim-leads (group c) d s r =
      let x = choice-leads c (suc d) in
      on s (opens ∷ []) (choice_toks c ++ (closes ∷ [])) (open-leads r) (on (need (suc d)) (choice_toks c) (closes ∷ []) x.2 (close-leads x.1))

-- a rule after what may end
rule-leads : (h : Symbol) (c : Choice) (s : State) → Done 0 s → Leads (Done 0) s (symbol h ∷ arrow ∷ choice_toks c)
unfolding state_after step after new_rule
rule-leads h c s by-prim = choice-leads c 0
rule-leads h c s by_part = choice-leads c 0
rule-leads h c s by-maybe = choice-leads c 0

rules-lead : (g : Rules) → Leads (Done 0) start (tokens g)
unfolding state_after step tokens
rules-lead (rule h c) = choice-leads c 0
rules-lead (more g h c) = let x = rules-lead g in on start (tokens g) (symbol h ∷ arrow ∷ choice_toks c) x.2 (rule-leads h c x.0 x.1)

done-accepts : {s : State} → Done 0 s → accepting s ≡ true
unfolding accepting
done-accepts by-prim = refl
done-accepts by_part = refl
done-accepts by-maybe = refl

-- the tokens of every grammar are accepted
pub accepted : (ts : List Tok) → Grammatical ts → accepts (state_after (some start) ts) ≡ true
accepted ts w = let x = rules-lead w.0 in ap (λ (l : List Tok). accepts (state_after (some start) l)) (sym w.1) ∙ ap accepts x.2 ∙ done-accepts x.1
