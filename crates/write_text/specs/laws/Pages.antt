-- The rules of a table one after the other, and the room with the whole text. Assumes nothing.
use Prim.Native.Nat.{ℕ, zero, suc, ◌+◌, ◌-◌, ◌*◌, ◌≤◌, ◌<◌}
use Rattle.std.specs.Prelude.{◌≡◌, refl, Bool, true, false, length, get_or, set, take, drop, leb, min}
use Rattle.std.proofs.Math.Path.{sym, ap}
use Rattle.std.proofs.Common.{◌∙◌, length-set, le-leb}
use mathlib.Core.List.{List, [], ◌∷◌, ◌++◌, append-nil, append_assoc}
use Rattle.std.proofs.Math.Option.{Option, none, some}
use native.Mathlib.Omega.{arith}
use Rattle.std.proofs.lemmas.Bool.{lt-leb}
use Rattle.read_tokens.specs.Token.{Symbol}
use Rattle.grammar.specs.Exp.{Exp}
use Rattle.grammar_table.specs.Table.{symbol_word, symbol_count, body_by, body_in}
use Rattle.grammar_table.specs.Trees.{tree_of}
use Rattle.write_rules.specs.Writing.{symbol_text, expr_text, rule_text, text}
use Rattle.write_leaves.specs.declared.bytes.Pen.{Pen}
use Rattle.write_leaves.specs.steps.Pen.{most, inked, after}
use Rattle.write_leaves.specs.laws.Pen.{counted, wrote}
use Rattle.write_leaves.specs.steps.Printed.{called, toned}
use Rattle.write_text.specs.steps.Texts.{rule_by, rules_in, rights_in, ruled, text_of, room_by, Paged}

-- ── a rule ──
pub rule-text : (h : Symbol) (e : Exp Symbol) → symbol_text h ++ ((32 ∷ 60 ∷ 45 ∷ 32 ∷ []) ++ (expr_text e ++ (10 ∷ []))) ≡ rule_text (record { left = h; right = e })
unfolding rule_text
rule-text h e = refl

module _ (f : ℕ → Symbol) (t : List ℕ) (r x : ℕ) (e : x ≡ symbol_word t r 1) where
  pub none-text : x ≡ 0 → [] ≡ text (rules_in f r (body_in t r ∷ []))
  unfolding text rules_in body_in
  none-text z = ap (λ (y : ℕ). text (rule_by f r (body_by t y) [])) (sym z ∙ e)

  some-by : (y : ℕ) → (y ≡ 0 → ⊥) → rule_text (record { left = f r; right = toned f (tree_of t y) }) ≡ text (rule_by f r (body_by t y) [])
  unfolding text
  some-by zero n = absurd (n refl)
  some-by (suc y) n = sym (append-nil _)

  pub some-text : (x ≡ 0 → ⊥) → rule_text (record { left = f r; right = toned f (tree_of t x) }) ≡ text (rules_in f r (body_in t r ∷ []))
  unfolding rules_in body_in
  some-text n = some-by x n ∙ ap (λ (y : ℕ). text (rule_by f r (body_by t y) [])) e

-- ── the loop over the symbols: what is left ──
abbrev pub rest_of : (ℕ → Symbol) → List ℕ → ℕ → ℕ → List ℕ
rest_of f t n r = text (rules_in f r (rights_in t r (n - r)))

pub rest-start : (p : Bool) (t : List ℕ) (n : ℕ) → n ≡ get_or t 0 0 → text_of p t ≡ rest_of (called p t) t n 0
unfolding text_of ruled
rest-start p t n e = ap (λ (k : ℕ). text (rules_in (called p t) 0 (rights_in t 0 k))) (let z : symbol_count t ≡ n - 0 = omega (arith, e) in z)

module _ (f : ℕ → Symbol) (t : List ℕ) (n : ℕ) where
  one_more : (r : ℕ) (o : Option (Exp ℕ)) (os : List (Option (Exp ℕ))) → text (rules_in f r (o ∷ os)) ≡ text (rules_in f r (o ∷ [])) ++ text (rules_in f (r + 1) os)
  unfolding rules_in text
  one_more r none os = let z : suc r ≡ r + 1 = omega arith in ap (λ (k : ℕ). text (rules_in f k os)) z
  one_more r (some e) os =
      let w = rule_text (record { left = f r; right = toned f e }) in
      let z : suc r ≡ r + 1 = omega arith in
      ap (λ (k : ℕ). w ++ text (rules_in f k os)) z ∙ ap (λ (l : List ℕ). l ++ text (rules_in f (r + 1) os)) (sym (append-nil w))

  pub rest_more : (r : ℕ) → r < n → rest_of f t n r ≡ text (rules_in f r (body_in t r ∷ [])) ++ rest_of f t n (r + 1)
  unfolding rights_in
  rest_more r h =
      let a : n - r ≡ suc (n - (r + 1)) = omega arith in
      let z : suc r ≡ r + 1 = omega arith in
      ap (λ (k : ℕ). text (rules_in f r (rights_in t r k))) a
      ∙ ap (λ (k : ℕ). text (rules_in f r (body_in t r ∷ rights_in t k (n - (r + 1))))) z
      ∙ one_more r (body_in t r) (rights_in t (r + 1) (n - (r + 1)))

  pub rest_end : (r : ℕ) → n ≤ r → rest_of f t n r ≡ []
  unfolding rights_in rules_in text
  rest_end r h = ap (λ (k : ℕ). text (rules_in f r (rights_in t r k))) (let a : n - r ≡ 0 = omega arith in a)

-- ── the room ──
-- bytes that fit stand from `at` on, and nothing else is changed
set_split : (out : List ℕ) (at b : ℕ) → at < length out → take (suc at) (set out at b) ≡ take at out ++ (b ∷ [])
set_split [] at b h = let z : ⊥ = omega arith in absurd z
set_split (x ∷ out) zero b h = refl
set_split (x ∷ out) (suc at) b h = ap (λ (l : List ℕ). x ∷ l) (set_split out at b (omega arith))

set-drop : (out : List ℕ) (at b n : ℕ) → at < n → drop n (set out at b) ≡ drop n out
set-drop out at b zero h = let z : ⊥ = omega arith in absurd z
set-drop [] at b (suc n) h = refl
set-drop (x ∷ out) zero b (suc n) h = refl
set-drop (x ∷ out) (suc at) b (suc n) h = set-drop out at b n (omega arith)

take-drop : (out : List ℕ) (at : ℕ) → out ≡ take at out ++ drop at out
take-drop out zero = refl
take-drop [] (suc at) = refl
take-drop (x ∷ out) (suc at) = ap (λ (l : List ℕ). x ∷ l) (take-drop out at)

pub inked-all : (bs out : List ℕ) (at : ℕ) → at + length bs ≤ length out → inked true bs out at ≡ take at out ++ (bs ++ drop (at + length bs) out)
unfolding inked
inked-all [] out at h = take-drop out at ∙ ap (λ (n : ℕ). take at out ++ drop n out) (let z : at ≡ at + 0 = omega arith in z)
inked-all (b ∷ bs) out at h =
    let n : suc at + length bs ≡ at + suc (length bs) = omega arith in
    inked-all bs (set out at b) (suc at) (rw (length-set out at b) (omega arith))
    ∙ ap (λ (l : List ℕ). l ++ (bs ++ drop (suc at + length bs) (set out at b))) (set_split out at b (omega arith))
    ∙ append_assoc (take at out) (b ∷ []) (bs ++ drop (suc at + length bs) (set out at b))
    ∙ ap (λ (l : List ℕ). take at out ++ (b ∷ (bs ++ l))) (set-drop out at b (suc at + length bs) (omega arith) ∙ ap (λ (k : ℕ). drop k out) n)

-- ── too long, or written: a pen has counted the text, and then another has written it ──
module _ (w old : List ℕ) (small : length old < most) (p : Pen) {q : Pen} (z : p.at ≡ 0) (e : q ≡ after p w) where
  count : q.at ≡ min most (length w)
  count = omega (arith, (counted p w z e []).place)

  pub too_long : length old < q.at → Paged w old old q.at false
  too_long h =
      let b : leb (length w) (length old) ≡ false = lt-leb (length w) (length old) (omega (arith, h, count)) in
      record { counted = count; fitting = sym b; room = ap (λ (x : Bool). room_by x w old) (sym b) }

  pub written : (p' : Pen) {q' : Pen} {new : List ℕ} → q.at ≤ length old → p'.out.now ≡ old → p'.at ≡ 0 → q' ≡ after p' w → new ≡ q'.out.now → Paged w old new q'.at true
  written p' {q'} {new} h o z' e' n =
      let k : 0 + length w ≤ length old = omega (arith, h, count, small) in
      let b : leb (length w) (length old) ≡ true = le-leb (length w) (length old) (omega (arith, k)) in
      let l : length p'.out.now < most = omega (arith, small, ap length o) in
      record {
        counted = omega (arith, (wrote p' w z' e' l).place);
        fitting = sym b;
        room = n ∙ (wrote p' w z' e' l).room ∙ ap (λ (x : List ℕ). inked true w x 0) o ∙ inked-all w old 0 k
            ∙ ap (λ (x : ℕ). w ++ drop x old) (let y : 0 + length w ≡ length w = omega arith in y) ∙ ap (λ (x : Bool). room_by x w old) (sym b);
      }
