-- First calls and loops in 01's words (01, Lakes made plain): "X first-calls each symbol in its plain body before which nothing need be consumed", and
-- "a loop is a symbol that reaches itself". Refusal 8 is said by these; that `first_calls` and `loop` compute them is proved in laws/Exact.
-- Assumes nothing: these are definitions.
use Rattle.std.specs.Prelude.{ℕ, ◌<◌, ◌≡◌, Bool, true, List, ◌⊎◌, length, get_or}
use Rattle.read_tokens.specs.Token.{any}
use Rattle.grammar.specs.Exp.{Exp, sym, ter, seq, alt, opt, star, plus, ahead, never}
use Rattle.grammar.specs.Empty.{has_empty}
use Rattle.lake_rules.specs.Beginning.{marked, marks_of}

-- "both sides of a choice, the right of a sequence whose left has ε, and under `&`, `!`, `?`, `*`, `+`"; m marks the symbols whose body has ε
abbrev pub Calls : (ℕ → Bool) → Exp ℕ → ℕ → Type 0
Calls m (sym r) x = x ≡ r
Calls m (ter l) x = ⊥
Calls m (seq a b) x = Calls m a x ⊎ ((has_empty m a ≡ true) × Calls m b x)
Calls m (alt a b) x = Calls m a x ⊎ Calls m b x
Calls m (opt a) x = Calls m a x
Calls m (star a) x = Calls m a x
Calls m (plus a) x = Calls m a x
Calls m (ahead a) x = Calls m a x
Calls m (never a) x = Calls m a x

-- symbol r, which has a body, first-calls x
abbrev pub FirstCalls : List (Exp ℕ) → ℕ → ℕ → Type 0
FirstCalls bodies r x = (r < length bodies) × Calls (marked (marks_of bodies)) (get_or bodies r (ter any)) x

-- one step after the other leads from r to x
pub data LeadsTo (Step : ℕ → ℕ → Type 0) (r : ℕ) : ℕ → Type 0 where
  at_once : {x : ℕ} → Step r x → LeadsTo Step r x
  and-on : {y x : ℕ} → LeadsTo Step r y → Step y x → LeadsTo Step r x

-- "a loop is a symbol that reaches itself"
abbrev pub OnLoop : List (Exp ℕ) → ℕ → Type 0
OnLoop bodies r = LeadsTo (FirstCalls bodies) r r

-- 8: "smallest symbol on one"
pub record SmallestLoop (bodies : List (Exp ℕ)) (p : ℕ) : Type 0 where
  pub loops : OnLoop bodies p
  pub smallest : (y : ℕ) → y < p → OnLoop bodies y → ⊥
