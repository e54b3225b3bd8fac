-- One symbol more. Assumes nothing.
use Prim.Native.Nat.{ℕ, zero, suc, ◌+◌, ◌-◌, ◌*◌, ◌≤◌, ◌<◌, min}
use Rattle.std.specs.Prelude.{◌≡◌, ◌⊎◌, Bool, true, false, not, set, take, eqb}
use Rattle.std.proofs.Math.Path.{refl, sym, ap, subst}
use Rattle.std.proofs.Common.{ap₂, ◌∙◌, inl, inr, ⊎_elim, add-one, length-set, length-append, get_or-set_same, get_or-set_other}
use mathlib.Core.List.{List, [], ◌∷◌, ◌++◌, map}
use Rattle.std.proofs.Math.Option.{Option, none, some}
use native.Mathlib.Omega.{arith}
use Rattle.std.proofs.Math.ListN.{length, get_or, get_or-append}
use Rattle.std.proofs.Math.Seq.{get_or-append-add}
use Rattle.base_facts.specs.laws.Numbers.{lt-or-ge, same?}
use Rattle.read_tokens.specs.Token.{Symbol, Leaf, name, lake}
use Rattle.grammar.specs.Exp.{Exp, size}
use Rattle.grammar.specs.Numbers.{Grammar, is_lake}
use Rattle.grammar.specs.Parts.{Part, last, parts_of, parts_all}
use Rattle.grammar_table.specs.Table.{table_words, expressions_at, symbols_at, symbol_words, symbol_count, expression_count, symbol_word, symbol_by, name_in, part_by, part_in, parts_in, roots_in, up_to}
use Rattle.grammar_table.specs.Holds.{Holds, present, roots_from}
use Rattle.lake_step_one.specs.Intermediate.{intermediate, bodies_by, intermediate_by, water_in}
use Rattle.grammar.specs.Numbers.{terminal_in}
use Rattle.grammar_table.specs.laws.Places.{up_to-at}
use Rattle.grammar_table.specs.laws.Parts.{total, size-pos, parts-long, all-long}
use Rattle.lake_step_one.specs.steps.Runs.{nil, PartsRun, Grew, BodyAt, body_parts, BodyTo, EndWord, ends_at}
use Rattle.lake_step_one.specs.steps.Made.{next_by, lake_at, Made, MadeOf}
use Rattle.lake_step_one.proofs.laws.Bodies.{end-word}
use Rattle.lake_step_one.proofs.laws.Held.{by_kind, names-are, rights-long, expressions-are, part-is}

-- ---- lists
abbrev pub size_by : Option (Exp ℕ) → ℕ
size_by none = 0
size_by (some e) = size e

pub present-next : (os : List (Option (Exp ℕ))) (s : ℕ) → s < length os → total (present (take (suc s) os)) ≡ total (present (take s os)) + size_by (get_or os s none)
unfolding total present
present-next [] s h = let z : ⊥ = omega arith in absurd z
present-next (none ∷ os) zero h = refl
present-next (some e ∷ os) zero h = omega arith
present-next (none ∷ os) (suc s) h = present-next os s (omega arith)
present-next (some e ∷ os) (suc s) h = let q : total (present (take (suc s) os)) ≡ total (present (take s os)) + size_by (get_or os s none) = present-next os s (omega arith) in omega arith

pub bodies-at : (w : Option (Exp ℕ)) (hs : List Symbol) (os : List (Option (Exp ℕ))) (s : ℕ) → s < length hs → s < length os → get_or (bodies_by w hs os) s none ≡ intermediate_by
    (is_lake (get_or hs s (name []))) w (get_or os s none)
unfolding bodies_by
bodies-at w [] os s h l = let z : ⊥ = omega arith in absurd z
bodies-at w (x ∷ hs) [] s h l = let z : ⊥ = omega arith in absurd z
bodies-at w (x ∷ hs) (o ∷ os) zero h l = refl
bodies-at w (x ∷ hs) (o ∷ os) (suc s) h l = bodies-at w hs os s (omega arith) (omega arith)

pub bodies-long : (w : Option (Exp ℕ)) (hs : List Symbol) (os : List (Option (Exp ℕ))) → length hs ≡ length os → length (bodies_by w hs os) ≡ length hs
unfolding bodies_by
bodies-long w [] os h = refl
bodies-long w (x ∷ hs) [] h = let z : ⊥ = omega arith in absurd z
bodies-long w (x ∷ hs) (o ∷ os) h = ap suc (bodies-long w hs os (omega arith))

-- the parts of one body among all
pub parts_at : (number : Leaf → ℕ) (os : List (Option (Exp ℕ))) (o s : ℕ) → s < length os → (j : ℕ) → j < size_by (get_or os s none)
    → get_or (parts_all number o (present os)) (total (present (take s os)) + j) nil ≡ get_or (body_parts number (o + total (present (take s os))) (get_or os s none)) j nil
unfolding parts_all total present
parts_at number [] o s h j l = let z : ⊥ = omega arith in absurd z
parts_at number (none ∷ os) o zero h j l = let z : ⊥ = omega arith in absurd z
parts_at number (none ∷ os) o (suc s) h j l = parts_at number os o s (omega arith) j l
parts_at number (some e ∷ os) o zero h j l =
    ap (λ (i : ℕ). get_or (parts_of number o e ++ parts_all number (o + size e) (present os)) i nil) (let q : 0 + j ≡ j = omega arith in q)
    ∙ get_or-append (parts_of number o e) (parts_all number (o + size e) (present os)) nil j (rw (parts-long number e o) l)
    ∙ ap (λ (i : ℕ). get_or (parts_of number i e) j nil) (let q : o ≡ o + 0 = omega arith in q)
parts_at number (some e ∷ os) o (suc s) h j l =
    let p : length (parts_of number o e) ≡ size e = parts-long number e o in
    let rest = parts_all number (o + size e) (present os) in
    ap (λ (i : ℕ). get_or (parts_of number o e ++ rest) i nil)
    (let q : size e + total (present (take s os)) + j ≡ length (parts_of number o e) + (total (present (take s os)) + j) = omega arith in q)
    ∙ get_or-append-add (parts_of number o e) rest (total (present (take s os)) + j) nil
    ∙ parts_at number os (o + size e) s (omega arith) j l
    ∙ ap (λ (i : ℕ). get_or (body_parts number i (get_or os s none)) j nil)
    (let q : o + size e + total (present (take s os)) ≡ o + (size e + total (present (take s os))) = omega arith in q)

-- the word of a body is where its run ends
pub root-end : (os : List (Option (Exp ℕ))) (o s : ℕ) → s < length os → get_or (roots_from o os) s 0 ≡ ends_at (get_or os s none) (o + total (present (take (suc s) os)))
unfolding roots_from total present
root-end [] o s h = let z : ⊥ = omega arith in absurd z
root-end (none ∷ os) o zero h = refl
root-end (none ∷ os) o (suc s) h = root-end os o s (omega arith)
root-end (some e ∷ []) o zero h = omega (arith, size-pos e)
root-end (some e ∷ none ∷ os) o zero h = omega (arith, size-pos e)
root-end (some e ∷ some f ∷ os) o zero h = omega (arith, size-pos e)
root-end (some e ∷ os) o (suc s) h =
    root-end os (o + size e) s (omega arith)
    ∙ ap (ends_at (get_or os s none)) (let q : o + size e + total (present (take (suc s) os)) ≡ o + (size e + total (present (take (suc s) os))) = omega arith in q)

-- ---- the bodies of a table
module _ (number : Leaf → ℕ) (t : List ℕ) where
  bodies-from : (os : List (Option (Exp ℕ))) (o : ℕ) → ((j : ℕ) → j < length (parts_all number o (present os)) → part_in t (o + j) ≡ get_or (parts_all number o (present os)) j nil) → o + total
      (present os) ≤ 1024
      → (s : ℕ) → s < length os → BodyAt number t (o + total (present (take s os))) (get_or (roots_from o os) s 0) (get_or os s none)
  unfolding present roots_from parts_all total
  bodies-from [] o h l s p = let z : ⊥ = omega arith in absurd z
  bodies-from (none ∷ os) o h l zero p = refl
  bodies-from (none ∷ os) o h l (suc s) p = bodies-from os o h l s (omega arith)
  bodies-from (some e ∷ os) o h l zero p =
      subst (λ (i : ℕ). BodyAt number t i (suc (last o e)) (some e)) (let q : o ≡ o + 0 = omega arith in q) (
        omega (arith, size-pos e),
        (
          omega arith,
          λ j k. h j (rw (length-append (parts_of number o e) (parts_all number (o + size e) (present os))) (omega arith)) ∙ get_or-append (parts_of number o e)
              (parts_all number (o + size e) (present os)) nil j k,
        ),
      )
  bodies-from (some e ∷ os) o h l (suc s) p =
      subst (λ (i : ℕ). BodyAt number t i (get_or (roots_from (o + size e) os) s 0) (get_or os s none))
      (let q : o + size e + total (present (take s os)) ≡ o + (size e + total (present (take s os))) = omega arith in q)
      (bodies-from os (o + size e)
      (λ j k. let w : length (parts_of number o e) ≡ size e = parts-long number e o in
      ap (part_in t) (let q : o + size e + j ≡ o + (length (parts_of number o e) + j) = omega arith in q)
      ∙ h (length (parts_of number o e) + j) (rw (length-append (parts_of number o e) (parts_all number (o + size e) (present os))) (omega arith))
      ∙ get_or-append-add (parts_of number o e) (parts_all number (o + size e) (present os)) j nil)
      (omega arith) s (omega arith))

module _ (t : List ℕ) (g : Grammar) (h : Holds t g) where
  pub middle-long : length (intermediate g) ≡ symbol_count t
  unfolding intermediate
  middle-long = bodies-long (water_in g) g.names g.rights (omega (arith, rights-long t g h, names-are t g h)) ∙ sym (names-are t g h)

  pub name-at : (s : ℕ) → s < symbol_count t → get_or g.names s (name []) ≡ name_in t s
  name-at s l = ap (λ (ns : List Symbol). get_or ns s (name [])) (sym h.names) ∙ up_to-at (name_in t) (symbol_count t) s (name []) l

  pub lake-at : (s : ℕ) → s < symbol_count t → is_lake (get_or g.names s (name [])) ≡ lake_at t s
  unfolding name_in
  lake-at s l = ap is_lake (name-at s l) ∙ by_kind (symbol_word t s 0) _

  pub body_at : (s : ℕ) → s < symbol_count t → BodyAt (terminal_in g) t (total (present (take s g.rights))) (symbol_word t s 1) (get_or g.rights s none)
  unfolding roots_in parts_in
  body_at s l =
      let n : expression_count t ≡ total (present g.rights) = expressions-are t g h in
      let w : symbol_word t s 1 ≡ get_or (roots_from 0 g.rights) s 0 = sym (up_to-at (λ r. symbol_word t r 1) (symbol_count t) s 0 l) ∙ ap (λ (ws : List ℕ). get_or ws s 0) h.roots in
      subst (λ (b : ℕ). BodyAt (terminal_in g) t (total (present (take s g.rights))) b (get_or g.rights s none)) (sym w)
      (subst (λ (i : ℕ). BodyAt (terminal_in g) t i (get_or (roots_from 0 g.rights) s 0) (get_or g.rights s none))
      (let q : 0 + total (present (take s g.rights)) ≡ total (present (take s g.rights)) = omega arith in q)
      (bodies-from (terminal_in g) t g.rights 0
      (part-is t g h)
      (omega (arith, n, h.few-expressions)) s (omega (arith, rights-long t g h))))

  pub next-from : (s from b : ℕ) → s < symbol_count t → from ≡ total (present (take s g.rights)) → b ≡ symbol_word t s 1 → next_by from b ≡ total (present (take (s + 1) g.rights))
  next-from s from b l e f =
      by (get_or g.rights s none) refl (subst (λ (y : ℕ). BodyAt (terminal_in g) t (total (present (take s g.rights))) y (get_or g.rights s none)) (sym f) (body_at s l))
      ∙ sym (ap (λ (i : ℕ). total (present (take i g.rights))) (add-one s) ∙ present-next g.rights s (omega (arith, rights-long t g h)))
    where
      nonzero : (b from : ℕ) → 0 < b → next_by from b ≡ b
      nonzero zero from z = let y : ⊥ = omega arith in absurd y
      nonzero (suc b) from z = refl

      by : (o : Option (Exp ℕ)) → get_or g.rights s none ≡ o → BodyAt (terminal_in g) t (total (present (take s g.rights))) b o → next_by from b ≡ total (present (take s g.rights)) + size_by o
      by none q z = ap (next_by from) z ∙ (let y : from ≡ total (present (take s g.rights)) + 0 = omega arith in y)
      by (some c) q z = nonzero b from (omega (arith, z.0, size-pos c)) ∙ z.0

-- the store of a body's number changes no expression
part_low : (mid : List ℕ) (r v j : ℕ) → r < 64 → part_in (set mid (symbols_at + symbol_words * r + 1) v) j ≡ part_in mid j
unfolding part_in
part_low mid r v j h =
    ap₂ (λ (f : ℕ → Part) (x : ℕ). f x) (ap₂ part_by (same 0 (omega arith)) (same 1 (omega arith))) (same 2 (omega arith))
  where
    same : (w : ℕ) → w < 3 → get_or (set mid (symbols_at + symbol_words * r + 1) v) (expressions_at + 3 * j + w) 0 ≡ get_or mid (expressions_at + 3 * j + w) 0
    same w k = get_or-set_other mid (symbols_at + symbol_words * r + 1) (expressions_at + 3 * j + w) v 0 (λ e. let z : ⊥ = omega arith in z)

-- a new body for symbol r
pub made_more : (t : List ℕ) (rights : List (Option (Exp ℕ))) (r from m b p v : ℕ) (mid one mid' : List ℕ) → r < 64 → b ≡ symbol_word t r 1 → (p < 4294967296 → v ≡ ends_at (get_or rights r none) p)
    → mid' ≡ set one (symbols_at + symbol_words * r + 1) v → (g : Grammar) → Holds t g → length rights ≡ symbol_count t → r < symbol_count t
    → Grew mid m (body_parts (terminal_in g) m (get_or rights r none)) one p → MadeOf t g rights r from m mid → MadeOf t g rights (r + 1) (next_by from b) p mid'
made_more t rights r from m b p v mid one mid' small eb ev es g h len l gr old =
    let number = terminal_in g in
    let O = get_or rights r none in
    let cnt : p ≡ total (present (take (r + 1) rights))
    = gr.count ∙ ap₂ ◌+◌ old.count (body-long number m O) ∙ sym (ap (λ (i : ℕ). total (present (take i rights))) (add-one r) ∙ present-next rights r (omega arith)) in
    record {
      long = ap length es ∙ length-set one (symbols_at + symbol_words * r + 1) v ∙ gr.long ∙ old.long;
      from_is = next-from t g h r from b l old.from_is eb;
      count = cnt;
      parts = λ j jp js. ap (λ (x : List ℕ). part_in x j) es ∙ part_low one r v j small ∙ ⊎_elim
          (λ q. gr.before j q ∙ old.parts j q js)
          (λ (q : m ≤ j).
          let i = j - m in
          let e : j ≡ m + i = omega arith in
          let f : j ≡ total (present (take r rights)) + i = e ∙ ap (λ (y : ℕ). y + i) old.count in
          let li : i < length (body_parts number m O) = omega (arith, gr.count) in
          ap (part_in one) e ∙ gr.new i li (omega arith)
          ∙ ap (λ (y : ℕ). get_or (body_parts number y O) i nil) (old.count ∙ (let u : total (present (take r rights)) ≡ 0 + total (present (take r rights)) = omega arith in u))
          ∙ sym (ap (λ (y : ℕ). get_or (parts_all number 0 (present rights)) y nil) f
          ∙ parts_at number rights 0 r (omega arith) i (omega (arith, body-long number m O))))
          (lt-or-ge j m);
      roots = λ s sl fit. ap (λ (x : List ℕ). symbol_word x s 1) es ∙ ⊎_elim
          (λ q. subst (λ (y : ℕ). get_or (set one (symbols_at + symbol_words * r + 1) v) (symbols_at + symbol_words * y + 1) 0 ≡ get_or (roots_from 0 rights) y 0) (sym q)
          (let c : total (present (take (suc r) rights)) ≡ p = ap (λ (y : ℕ). total (present (take y rights))) (sym (add-one r)) ∙ sym cnt in
          get_or-set_same one (symbols_at + symbol_words * r + 1) v 0 (let u : length one ≡ table_words = gr.long ∙ old.long in omega arith)
          ∙ ev (let d : total (present (take (suc s) rights)) ≡ p = ap (λ (y : ℕ). total (present (take (suc y) rights))) q ∙ c in omega arith)
          ∙ sym (root-end rights 0 r (omega arith) ∙ ap (ends_at O) (let u : 0 + total (present (take (suc r) rights)) ≡ p = omega (arith, c) in u))))
          (λ (q : s ≡ r → ⊥). get_or-set_other one (symbols_at + symbol_words * r + 1) (symbols_at + symbol_words * s + 1) v 0 (λ e. q (omega arith))
          ∙ gr.low (symbols_at + symbol_words * s + 1) (omega arith) ∙ old.roots s (omega arith) fit)
          (same? s r);
      low = λ i il apart. ap (λ (x : List ℕ). get_or x i 0) es
          ∙ get_or-set_other one (symbols_at + symbol_words * r + 1) i v 0 (apart r (omega arith))
          ∙ gr.low i il ∙ old.low i il (λ s sl. apart s (omega arith));
    }
  where
    body-long : (number : Leaf → ℕ) (m : ℕ) (o : Option (Exp ℕ)) → length (body_parts number m o) ≡ size_by o
    body-long number m none = refl
    body-long number m (some e) = parts-long number e m

pub made-next : (t : List ℕ) (r wa wb from m b p v : ℕ) (mid one mid' : List ℕ) → r < 64 → b ≡ symbol_word t r 1 → BodyTo t (lake_at t r) from b wa wb mid m one p → EndWord m p v → mid' ≡ set one
    (symbols_at + symbol_words * r + 1) v
    → (g : Grammar) → Holds t g → r < symbol_count t → BodyAt (terminal_in g) t wa wb (water_in g) → Made t g r from m mid → Made t g (r + 1) (next_by from b) p mid'
unfolding intermediate
made-next t r wa wb from m b p v mid one mid' small eb to ev es g h l wat old =
    let number = terminal_in g in
    let w = water_in g in
    let o = get_or g.rights r none in
    let bodies = intermediate g in
    let ba : BodyAt number t from b o = subst (λ (i : ℕ). BodyAt number t i b o) (sym old.from_is)
    (subst (λ (y : ℕ). BodyAt number t (total (present (take r g.rights))) y o) (sym eb) (body_at t g h r l)) in
    let O = get_or bodies r none in
    let is_o : intermediate_by (lake_at t r) w o ≡ O = sym (bodies-at w g.names g.rights r (omega (arith, names-are t g h)) (omega (arith, rights-long t g h)) ∙ ap
    (λ (x : Bool). intermediate_by x w o) (lake-at t g h r l)) in
    let gr : Grew mid m (body_parts number m O) one p = subst (λ (x : Option (Exp ℕ)). Grew mid m (body_parts number m x) one p) is_o (to number w o old.long wat ba) in
    made_more t bodies r from m b p v mid one mid' small eb (end-word number mid one m p v O gr ev) es g h (middle-long t g h) l gr old

pub positive : (from b : ℕ) → (b ≡ 0 → ⊥) → next_by from b ≡ b
positive from zero h = absurd (h refl)
positive from (suc b) h = refl

pub next-lt : (from b u : ℕ) → u ≡ next_by from b → from < 4294967296 → b < 4294967296 → u < 4294967296
next-lt from zero u e p q = omega arith
next-lt from (suc b) u e p q = omega arith
