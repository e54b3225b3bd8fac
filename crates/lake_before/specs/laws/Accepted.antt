-- Every grammar that was accepted before 02, §4 is accepted: its plain form is no larger (7), and no loop is new (8). Assumes nothing.
use Prim.Native.Nat.{ℕ, suc, ◌+◌, ◌≤◌, ◌<◌}
use Rattle.std.specs.Prelude.{◌≡◌, Bool, true, false, List, [], ◌∷◌, map}
use Rattle.std.proofs.Common.{sym, subst, arith}
use Rattle.std.proofs.Math.Option.{Option, none, some}
use Rattle.std.proofs.Math.ListN.{length, get_or}
use Rattle.read_tokens.specs.Token.{Symbol, any}
use Rattle.grammar.specs.Exp.{Exp, alt}
use Rattle.grammar.specs.Lakes.{skip_of, step_two}
use Rattle.grammar.specs.Numbers.{Grammar, is_lake, terminal_in}
use Rattle.grammar.specs.Parts.{Part, terminal, parts_all}
use Rattle.grammar_table.specs.Holds.{present, roots_from}
use Rattle.lake_step_one.specs.Intermediate.{intermediate, water_in}
use Rattle.lake_step_one.specs.Proper.{ProperIn, middle}
use Rattle.lake_step_one.proofs.laws.Proper.{proper-of}
use Rattle.lake_step_one.proofs.laws.Next.{bodies-long}
use Rattle.lake_rules.specs.Analysis.{Analysis, analysed, analysis_in, analysis, lake_alt}
use Rattle.lake_rules.proofs.laws.Least.{part-ok, lawful-in}
use Rattle.lake_plain.specs.Plain.{alternatives, right_or, plain_by, plain_from, plain_bodies, sizes}
use Rattle.lake_plain.specs.Calls.{loop}
use Rattle.lake_before.specs.Before.{bodies_before, middle_before, alt_before, two_before, plain_from_before, plain_before}
use Rattle.lake_before.specs.laws.Fewer.{Among, alternatives-in}
use Rattle.lake_before.specs.laws.Less.{Less, less-same, less-any, less-left, less-right, less_both, less-skip, LessAll, none_left as no_body, and_one as and-body, less-sizes, less-loops}
use Rattle.lake_before.specs.laws.Bodies.{Kin, none-now, same, first_of, KinAll, none_left, and_one, bodies-kin, proper-before, before-long, middle-long}
use Rattle.lake_before.specs.laws.Copies.{Copied, place, copied}
use Rattle.lake_before.specs.laws.Carries.{uses-long, uses-before}

-- ── a plain body, now and before ──
own-less : {o : Option (Exp ℕ)} {b : Exp ℕ} → Kin o b → Less (right_or o) b
own-less (none-now {b = b}) = less-any b
own-less (same {e = e}) = less-same e
own-less (first_of {e = e} {b = b}) = less-left e e b (less-same e)

lake-less : {o : Option (Exp ℕ)} {b : Exp ℕ} → Kin o b → (ss us : List (Exp ℕ)) → Among ss us → Less (step_two o ss) (alt b (skip_of us))
unfolding step_two
lake-less (none-now {b = b}) ss us h = less-right (skip_of ss) b (skip_of us) (less-skip ss us h)
lake-less (same {e = e}) ss us h = less_both e (skip_of ss) e (skip_of us) (less-same e) (less-skip ss us h)
lake-less (first_of {e = e} {b = b}) ss us h = less_both e (skip_of ss) (alt e b) (skip_of us) (less-left e e b (less-same e)) (less-skip ss us h)

body_less : (l : Bool) {o : Option (Exp ℕ)} {b : Exp ℕ} → Kin o b → (ss us : List (Exp ℕ)) → Among ss us → Less (plain_by l o ss) (two_before l b us)
body_less true k ss us h = lake-less k ss us h
body_less false k ss us h = own-less k

plain-less : (g : Grammar) (a a' : Analysis) (n : ℕ) → ((s : ℕ) → s < n → Among (alternatives g (lake_alt a s)) (alternatives g (alt_before a' s)))
    → (r : ℕ) (hs : List Symbol) {os : List (Option (Exp ℕ))} {bs : List (Exp ℕ)} → KinAll os bs → r + length hs ≤ n → LessAll (plain_from g a r hs os) (plain_from_before g a' r hs bs)
unfolding plain_from plain_from_before
plain-less g a a' n h r [] k l = no_body
plain-less g a a' n h r (x ∷ hs) none_left l = no_body
plain-less g a a' n h r (x ∷ hs) (and_one k q) l =
    and-body (body_less (is_lake x) k (alternatives g (lake_alt a r)) (alternatives g (alt_before a' r)) (h r (omega arith))) (plain-less g a a' n h (suc r) hs q (omega arith))

module _ (g : Grammar) (sound : ProperIn g) (long : length g.rights ≡ length g.names) (dot : terminal_in g any < length g.terminals) where
  abbrev bodies : List (Exp ℕ)
  bodies = bodies_before (water_in g) g.names g.rights

  abbrev now : List Part
  now = parts_all (terminal_in g) 0 (present (intermediate g))

  abbrev earlier : List Part
  earlier = parts_all (terminal_in g) 0 (present (map some bodies))

  now-long : length (intermediate g) ≡ length g.names
  unfolding intermediate
  now-long = bodies-long (water_in g) g.names g.rights (sym long)

  copy : Copied (length now) (length earlier) (length g.names) (λ i. get_or now i (terminal 0)) (λ i. get_or earlier i (terminal 0)) (λ s. get_or (roots_from 0 (intermediate g)) s 0)
      (λ s. get_or (roots_from 0 (map some bodies)) s 0) (place 0 0 (intermediate g) bodies)
  copy =
      subst (λ (r : ℕ). Copied (length now) (length earlier) r (λ i. get_or now i (terminal 0)) (λ i. get_or earlier i (terminal 0)) (λ s. get_or (roots_from 0 (intermediate g)) s 0)
      (λ s. get_or (roots_from 0 (map some bodies)) s 0) (place 0 0 (intermediate g) bodies)) (before-long (water_in g) g.names g.rights long)
      (copied (terminal_in g) (intermediate g) bodies (bodies-kin g))

  -- a lake's alternatives are among those that it had
  fewer-alternatives : (s : ℕ) → s < length g.names → Among (alternatives g (lake_alt (analysis g) s)) (alternatives g (alt_before (analysis_in (middle_before g)) s))
  unfolding analysis analysis_in analysed lake_alt
  fewer-alternatives s l =
      let R = length g.names in
      let X = length g.terminals in
      let a = analysis_in (middle g) in
      let a' = analysis_in (middle_before g) in
      let new : ℕ → Part = λ i. get_or now i (terminal 0) in
      let old : ℕ → Part = λ i. get_or earlier i (terminal 0) in
      let to = place 0 0 (intermediate g) bodies in
      let proper = proper-of g sound in
      let ok = part-ok (middle g) proper now-long in
      let law = lawful-in (middle g) proper now-long in
      let law' = lawful-in (middle_before g) (proper-before g sound dot) (middle-long g long) in
      alternatives-in (lake_alt a s) (alt_before a' s) (uses-long a a' R X (length now) (length earlier) new old to copy ok law law' s)
      (uses-before a a' R X (length now) (length earlier) new old to copy ok law law' s l) g

  bodies-less : LessAll (plain_bodies g (analysis g)) (plain_before g)
  unfolding plain_bodies plain_before
  bodies-less = plain-less g (analysis g) (analysis_in (middle_before g)) (length g.names) fewer-alternatives 0 g.names (bodies-kin g) (omega arith)

  pub no-larger : sizes (plain_bodies g (analysis g)) ≤ sizes (plain_before g)
  no-larger = less-sizes bodies-less

  pub no-new-loop : loop (plain_before g) ≡ none → loop (plain_bodies g (analysis g)) ≡ none
  no-new-loop h = less-loops (plain_bodies g (analysis g)) (plain_before g) bodies-less h
