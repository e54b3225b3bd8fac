-- Refusals 1 to 6, then 7, then 8: the answer of `read`. Assumes nothing.
use Rattle.std.specs.Prelude.{None}
use Rattle.std.specs.Prelude.{ℕ, ◌≤◌, ◌<◌, ◌≡◌, Bool, true, false, List, map, length}
use Rattle.std.proofs.Math.Path.{refl, ap}
use Rattle.std.proofs.Common.{sym, ◌∙◌, subst, true≢false, arith}
use Rattle.std.proofs.Math.Option.{Option, none, some}
use Rattle.std.proofs.lemmas.List.{length-map}
use Rattle.read_tokens.specs.declared.Mode.{Mode}
use Rattle.grammar.specs.Exp.{Exp, Rule}
use Rattle.grammar.specs.Numbers.{Grammar, numbered}
use Rattle.grammar.specs.Refusal.{Refusal, refusal, refuse_at, ◌▸◌}
use Rattle.grammar.specs.Syntax.{Rules}
use Rattle.grammar.specs.Trees.{trees}
use Rattle.read_grammar.specs.steps.Promises.{Sound}
use Rattle.grammar_table.specs.Holds.{Holds}
use Rattle.grammar_table.specs.Table.{symbol_count, symbol_word, name_in, roots_in}
use Rattle.grammar.specs.Numbers.{terminal_in}
use Rattle.lake_step_one.specs.Proper.{SoundAll}
use Rattle.grammar_table.specs.laws.Places.{up_to-long}
use Rattle.grammar_table.specs.laws.Parts.{from-long}
use Rattle.lake_step_one.specs.steps.Made.{with_bodies}
use Rattle.prepare.specs.laws.Dot.{dot-in}
use Rattle.lake_calls.specs.steps.Marks.{LoopedAll}
use Rattle.lake_step_two.specs.laws.Proper.{plain-proper}
use Rattle.read_syntax.specs.Reading.{refuses_text, rules_of, too_many}
use Rattle.read_syntax.specs.steps.Found.{found}
use Rattle.prepare.specs.steps.Scanned.{scanned}
use Rattle.prepare.specs.laws.Chain.{text-by-scan}
use Rattle.lake_plain.specs.Plain.{too_large}
use Rattle.lake_plain.specs.Calls.{loop, looping, calls_of, first_calls}
use Rattle.lake_rules.specs.Beginning.{marked, marks_of}
use Rattle.lake_calls.specs.steps.Place.{placed}
use Rattle.lake_plain.proofs.laws.Reaches.{Found, found as loop-found}
use Rattle.lake_step_two.specs.steps.Stepped.{plain_of}
use Rattle.prepare.specs.declared.Counted.{Counted}
use Rattle.prepare.specs.declared.Prepared.{Prepared as Worth}
use Rattle.prepare.specs.Prepare.{Prepared, prepared, prepared_by, refuses}
use Rattle.prepare.specs.Reads.{verdict_of, is_refused}
use Rattle.prepare.specs.Reads.{read_by, read_of}
use Rattle.prepare.specs.steps.Loads.{read_up_to6, Good, Loads, Worked, Translated, Ready, PlainOnly, Plainly}
use Rattle.prepare.specs.laws.Loads.{refused, clean, grammar-of, some-none}
use Rattle.prepare.specs.laws.Translates.{good}

pub split : (a b : Option Refusal) → (a ▸ b) ≡ none → (a ≡ none) × (b ≡ none)
split none b e = (refl, e)
split (some r) b e = absurd (some-none r e)

-- a text that 1 to 6 let through, with its concrete syntax
pub grammar-read : (m : Mode) (s : List ℕ) → refuses_text m s ≡ none → (g : Rules) × Sound m s g × (trees g ≡ rules_of m s)
grammar-read m s ok =
    grammar-of m s (clean m s (ap found (split (scanned m s) (too_many m (rules_of m s)) (sym (text-by-scan m s) ∙ ok)).0))

at_none : (o : Option ℕ) → refuse_at 8 o ≡ none → o ≡ none
at_none none e = refl
at_none (some x) e = absurd (some-none (refusal 8 x) e)

module _ (m : Mode) (s : List ℕ) where
  abbrev bodies : List (Exp ℕ)
  bodies = plain_of (numbered (rules_of m s))

  rest : Option Refusal → Option Refusal
  rest o = o ▸ (too_large bodies ▸ looping bodies)

  as-rest : refuses m s ≡ rest (refuses_text m s)
  unfolding refuses prepared prepared_by rest
  as-rest = refl

  -- ── what 1 to 6 said ──
  refused-by : (o : Option Refusal) → is_refused (verdict_of o) ≡ true → (x : Refusal) × (o ≡ some x)
  unfolding verdict_of
  refused-by none h = absurd (true≢false (sym h))
  refused-by (some x) h = (x, refl)

  passed-by : (o : Option Refusal) → is_refused (verdict_of o) ≡ false → o ≡ none
  unfolding verdict_of
  passed-by none h = refl
  passed-by (some x) h = absurd (true≢false h)

  verdict-is : (o : Option Refusal) (p : Prepared) → (read_by o p).verdict ≡ verdict_of o
  verdict-is none p = refl
  verdict-is (some x) p = refl

  said : (r : Counted) → r ≡ read_up_to6 m s → r.verdict ≡ verdict_of (refuses_text m s)
  unfolding read_up_to6
  said r e = ap (λ (c : Counted). c.verdict) e ∙ verdict-is (refuses_text m s) (prepared m s)

  answered : (o : Option Refusal) → refuses m s ≡ o → read_by o (prepared m s) ≡ read_of m s
  unfolding read_of
  answered o e = ap (λ (q : Option Refusal). read_by q (prepared m s)) (sym e)

  pub stays : (r : Counted) → r ≡ read_up_to6 m s → is_refused r.verdict ≡ true → r ≡ read_of m s
  unfolding read_up_to6 rest
  stays r e h =
      let w = refused-by (refuses_text m s) (sym (ap is_refused (said r e)) ∙ h) in
      e ∙ ap (λ (q : Option Refusal). read_by q (prepared m s)) w.1 ∙ answered (some w.0) (as-rest ∙ ap rest w.1)

  pub passed : (r : Counted) → r ≡ read_up_to6 m s → is_refused r.verdict ≡ false → refuses_text m s ≡ none
  passed r e h = passed-by (refuses_text m s) (sym (ap is_refused (said r e)) ∙ h)

  -- ── accepted by 1 to 6 ──
  module _ (ok : refuses_text m s ≡ none) where
    pub is-good : Good (numbered (rules_of m s))
    is-good = let w = grammar-read m s ok in subst (λ (rs : List Rule). Good (numbered rs)) w.2 (good m s w.0 w.1)

    pub seven : too_large bodies ≡ some (refusal 7 1025) → refused 7 1025 ≡ read_of m s
    unfolding rest verdict_of
    seven e = answered (some (refusal 7 1025)) (as-rest ∙ ap rest ok ∙ ap (λ (o : Option Refusal). o ▸ looping bodies) e)

    module _ (few : too_large bodies ≡ none) where
      by_loop : refuses m s ≡ refuse_at 8 (loop bodies)
      unfolding rest
      by_loop = as-rest ∙ ap rest ok ∙ ap (λ (o : Option Refusal). o ▸ looping bodies) few

      pub eight : (l : ℕ) → loop bodies ≡ some l → refused 8 l ≡ read_of m s
      unfolding verdict_of
      eight l e = answered (some (refusal 8 l)) (by_loop ∙ ap (refuse_at 8) e)

      pub fine : (r : Counted) → r ≡ read_up_to6 m s → loop bodies ≡ none → (refuses m s ≡ none) × (r ≡ read_of m s)
      unfolding read_up_to6
      fine r q e =
          let c : refuses m s ≡ none = by_loop ∙ ap (refuse_at 8) e in
          (c, q ∙ ap (λ (o : Option Refusal). read_by o (prepared m s)) ok ∙ answered none c)

  -- ── accepted by 1 to 8 ──
  pub clear-text : refuses m s ≡ none → refuses_text m s ≡ none
  unfolding rest
  clear-text e = (split (refuses_text m s) (too_large bodies ▸ looping bodies) (sym as-rest ∙ e)).0

  pub clear-good : refuses m s ≡ none → Good (numbered (rules_of m s))
  clear-good e = is-good (clear-text e)

  pub clear-sound : refuses m s ≡ none → SoundAll (terminal_in (numbered (rules_of m s))) (length (numbered (rules_of m s)).names) (length (numbered (rules_of m s)).terminals) bodies
  clear-sound e =
      let w = clear-good e in
      plain-proper (numbered (rules_of m s)) w.proper w.once w.none-empty (omega (arith, dot-in (rules_of m s)))

  pub clear-loop : refuses m s ≡ none → loop bodies ≡ none
  unfolding rest
  clear-loop e =
      let a : (too_large bodies ▸ looping bodies) ≡ none = (split (refuses_text m s) (too_large bodies ▸ looping bodies) (sym as-rest ∙ e)).1 in
      at_none (loop bodies) (split (too_large bodies) (looping bodies) a).1

-- ── a loop's place among n symbols ──
place-some : (n l : ℕ) (o : Option ℕ) → l ≡ placed n o → l < n → o ≡ some l
place-some n l none e h = absurd (omega (arith, e, h))
place-some n l (some x) e h = ap some (sym e)

place_none : (bs : List (Exp ℕ)) (l : ℕ) (o : Option ℕ) → Found (calls_of bs) (length (calls_of bs)) 0 o → l ≡ placed (length bs) o → length bs ≤ l → length (calls_of bs) ≡ length bs → o ≡ none
place_none bs l none f e h q = refl
place_none bs l (some x) f e h q = absurd (omega (arith, f.high, e, h, q))

pub looped : (bs : List (Exp ℕ)) (l : ℕ) → l ≡ placed (length bs) (loop bs) → l < length bs → loop bs ≡ some l
looped bs l e h = place-some (length bs) l (loop bs) e h

pub unlooped : (bs : List (Exp ℕ)) (l : ℕ) → l ≡ placed (length bs) (loop bs) → length bs ≤ l → loop bs ≡ none
unfolding loop calls_of
unlooped bs l e h = place_none bs l (loop bs) (loop-found (calls_of bs) (length (calls_of bs)) 0) e h (length-map bs (first_calls (marked (marks_of bs))))

-- a table with a body for each symbol has as many
same_count : (t : List ℕ) (g : Grammar) (bs : List (Exp ℕ)) → Holds t (with_bodies g bs) → length g.names ≡ length bs
unfolding roots_in
same_count t g bs h =
    let a : symbol_count t ≡ length g.names = sym (up_to-long (name_in t) (symbol_count t)) ∙ ap length h.names in
    let b : symbol_count t ≡ length bs = sym (up_to-long (λ r. symbol_word t r 1) (symbol_count t)) ∙ ap length h.roots ∙ from-long (map some bs) 0 ∙ length-map bs some in
    sym a ∙ b

-- ── the whole answer, from what the parts answer ──
-- a refusal stands for nothing
pub refusing : {m : Mode} {s t mid : List ℕ} {ms : List Bool} {sets : List (List ℕ)} {eps : List Bool} {succ alts : List (List ℕ)} {out : List ℕ} {r : Counted} (p : Worth)
    → p ≡ record { counted = r; rounds = 0 } → is_refused r.verdict ≡ true → r ≡ read_of m s → Ready m s t mid ms sets eps succ alts out p.counted p.rounds
refusing {m} {s} {t} {mid} {ms} {sets} {eps} {succ} {alts} {out} {r} p q h e =
    subst (λ (x : Worth). Ready m s t mid ms sets eps succ alts out x.counted x.rounds) (sym q) (record { answer = e; stands = λ z. absurd (true≢false (sym h ∙ z)) })

pub refused-plain : (m : Mode) (s out : List ℕ) (r : Counted) → is_refused r.verdict ≡ true → r ≡ read_of m s → PlainOnly m s out r
refused-plain m s out r h e = record { answer = e; clear = λ z. absurd (true≢false (sym h ∙ z)); plain = λ z. absurd (true≢false (sym h ∙ z)) }

pub as_plain : {m : Mode} {s t mid : List ℕ} {ms : List Bool} {sets : List (List ℕ)} {eps : List Bool} {succ alts : List (List ℕ)} {out : List ℕ} {r : Counted} {rounds : ℕ}
    → Ready m s t mid ms sets eps succ alts out r rounds → PlainOnly m s out r
as_plain k = record { answer = k.answer; clear = λ h. (k.stands h).clear; plain = λ h. (k.stands h).worked.plain }

-- what is accepted is a grammar's text, which may be gathered again
module _ (m : Mode) (s : List ℕ) (e : refuses m s ≡ none) where
  pub none-by-text : refuses_text m s ≡ none
  unfolding rest
  none-by-text = (split (refuses_text m s) (too_large (bodies m s) ▸ looping (bodies m s)) (sym (as-rest m s) ∙ e)).0

  pub none-by-scan : found (scanned m s) ≡ None
  none-by-scan = ap found (split (scanned m s) (too_many m (rules_of m s)) (sym (text-by-scan m s) ∙ none-by-text)).0

pub with-own : {m : Mode} {s t out : List ℕ} {r : Counted} → PlainOnly m s out r → Holds t (numbered (rules_of m s)) → Plainly m s t out r
with-own p h = record { answer = p.answer; clear = p.clear; table = λ _. h; plain = p.plain }

pub refused-both : {m : Mode} {s t out : List ℕ} {r : Counted} → PlainOnly m s out r → is_refused r.verdict ≡ true → Plainly m s t out r
refused-both p h = record { answer = p.answer; clear = p.clear; table = λ z. absurd (true≢false (sym h ∙ z)); plain = p.plain }

module _ (m : Mode) (s t : List ℕ) (r : Counted) (a : Loads m s t r) where
  pub first-six : is_refused r.verdict ≡ true → r ≡ read_of m s
  first-six h = stays m s r a.answer h

  module _ (h : is_refused r.verdict ≡ false) where
    ok : refuses_text m s ≡ none
    ok = passed m s r a.answer h

    abbrev g : Grammar
    g = numbered (rules_of m s)

    module _ (mid : List ℕ) (ms : List Bool) (sets : List (List ℕ)) (eps : List Bool) (succ alts : List (List ℕ)) (out : List ℕ) (n rounds : ℕ)
        (tr : Translated t mid ms sets eps succ alts out n rounds) where
      pub by-seven : 1024 < n → refused 7 1025 ≡ read_of m s
      by-seven l = seven m s ok (tr.over g (a.table ok) (is-good m s ok) l)

      module _ (l : n ≤ 1024) where
        done : Worked g mid ms sets eps succ alts out rounds
        done = tr.within g (a.table ok) (is-good m s ok) l

        symbols-is : r.symbols ≡ length g.names
        unfolding read_up_to6 prepared prepared_by
        symbols-is = ap (λ (c : Counted). c.symbols) (a.answer ∙ ap (λ (o : Option Refusal). read_by o (prepared m s)) ok)

        count : r.symbols ≡ length (plain_of g)
        count = symbols-is ∙ same_count out g (plain_of g) done.plain

        sound : SoundAll (terminal_in g) (length g.names) (length g.terminals) (plain_of g)
        sound = plain-proper g (is-good m s ok).proper (is-good m s ok).once (is-good m s ok).none-empty (omega (arith, dot-in (rules_of m s)))

        at-is : (at : ℕ) → LoopedAll out at → at ≡ placed (length (plain_of g)) (loop (plain_of g))
        at-is at k = k.is g (plain_of g) done.plain sound

        pub by-eight : (at : ℕ) → LoopedAll out at → at < r.symbols → refused 8 at ≡ read_of m s
        by-eight at k p = eight m s ok done.few at (looped (plain_of g) at (at-is at k) (omega (arith, p, count)))

        pub by-none : (at : ℕ) → LoopedAll out at → r.symbols ≤ at → Ready m s t mid ms sets eps succ alts out r rounds
        by-none at k p =
            let w = fine m s ok done.few r a.answer (unlooped (plain_of g) at (at-is at k) (omega (arith, p, count))) in
            record { answer = w.1; stands = λ z. record { clear = w.0; table = a.table ok; worked = done } }
