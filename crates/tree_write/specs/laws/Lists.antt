-- Each way in which writing a list ends is what the checks in their order say. Assumes nothing.
use Rattle.std.specs.Prelude.{ℕ, min, ◌≤◌, ◌<◌, ◌≡◌, refl, Bool, List, ltb}
use Rattle.std.proofs.Math.Path.{sym, ap}
use Rattle.std.proofs.Common.{◌∙◌, arith}
use Rattle.std.proofs.Math.Bool.{true, false}
use Rattle.std.proofs.Math.Option.{Option, none, some}
use Rattle.std.proofs.Math.Dec.{leb}
use Rattle.std.proofs.Math.ListN.{length}
use borrow.Author.Tests.{lt-ltb, le-ltb, leb-true, leb-false}
use Rattle.read_tokens.specs.Bounds.{input_bound}
use Rattle.grammar.specs.Refusal.{Refusal, refusal, refuse_if, refuse_at, ◌▸◌}
use Rattle.prepare.specs.Reads.{verdict_of}
use Rattle.prepare.specs.declared.Verdict.TheVariants.{Refused}
use Rattle.write_leaves.specs.steps.Pen.{most}
use Rattle.write_text.specs.steps.Texts.{room_by}
use Rattle.write_put.specs.declared.Written.{Written}
use Rattle.write_put.specs.steps.Puts.{not_written, answer_by, Put}
use Rattle.tree_list.specs.Preorder.{bad_node}
use Rattle.tree_write.specs.steps.Lists.{list_checks, room_check, wrote_by, room_after, WroteList}

-- a check that refuses
by-some : (w old new : List ℕ) (r : Written) (o : Option Refusal) (x : Refusal) → o ≡ some x → r ≡ not_written (Refused x.number x.place) → new ≡ old
    → WroteList o w old new r
unfolding verdict_of
by-some w old new r o x e a n = record {
  answer = a ∙ sym (ap (λ (c : Option Refusal). wrote_by (c ▸ room_check w old) w) e);
  room = n ∙ sym (ap (λ (c : Option Refusal). room_after (c ▸ room_check w old) w old) e);
}

module _ (R : ℕ) (s ws : List ℕ) where
  abbrev listed : Option Refusal
  listed = list_checks R s ws

  long : input_bound < length s → listed ≡ some (refusal 9 input_bound)
  long l = ap (λ (b : Bool). refuse_if b 9 input_bound ▸ refuse_at 15 (bad_node R (length s) ws)) (lt-ltb input_bound (length s) l)

  short : length s ≤ input_bound → (o : Option ℕ) → bad_node R (length s) ws ≡ o → listed ≡ refuse_at 15 o
  short l o e = ap (λ (b : Bool). refuse_if b 9 input_bound ▸ refuse_at 15 (bad_node R (length s) ws)) (le-ltb input_bound (length s) l) ∙ ap (refuse_at 15) e

  module _ (w old new : List ℕ) (r : Written) where
    pub too-long-input : input_bound < length s → r ≡ not_written (Refused 9 input_bound) → new ≡ old → WroteList listed w old new r
    too-long-input l = by-some w old new r listed (refusal 9 input_bound) (long l)

    pub bad-list : length s ≤ input_bound → (k : ℕ) → bad_node R (length s) ws ≡ some k → r ≡ not_written (Refused 15 k) → new ≡ old → WroteList listed w old new r
    bad-list l k e = by-some w old new r listed (refusal 15 k) (short l (some k) e)

    -- the text fits, or it does not
    module _ (clear : listed ≡ none) (small : length old < most) where
      passed : (b : Bool) → ltb (length old) (length w) ≡ b → (listed ▸ room_check w old) ≡ refuse_if b 13 (min most (length w))
      passed b e = ap (λ (x : Option Refusal). x ▸ room_check w old) clear ∙ ap (λ (c : Bool). refuse_if c 13 (min most (length w))) e

      by-fit : (p : Put w old new r) (f : Bool) → p.fits ≡ f → WroteList listed w old new r
      unfolding verdict_of
      by-fit p true q =
          let g : leb (length w) (length old) ≡ true = sym p.paged.fitting ∙ q in
          let c : (listed ▸ room_check w old) ≡ none = passed false (le-ltb (length old) (length w) (leb-true (length w) (length old) g)) in
          let n : p.bytes ≡ length w = omega (arith, p.paged.counted, leb-true (length w) (length old) g, small) in
          record {
            answer = p.answer ∙ ap (λ (b : Bool). answer_by b p.bytes) q ∙ ap (answer_by true) n ∙ sym (ap (λ (x : Option Refusal). wrote_by x w) c);
            room = p.paged.room ∙ ap (λ (b : Bool). room_by b w old) g ∙ sym (ap (λ (x : Option Refusal). room_after x w old) c);
          }
      by-fit p false q =
          let g : leb (length w) (length old) ≡ false = sym p.paged.fitting ∙ q in
          let c : (listed ▸ room_check w old) ≡ some (refusal 13 (min most (length w))) = passed true (lt-ltb (length old) (length w) (leb-false (length w) (length old) g)) in
          record {
            answer = p.answer ∙ ap (λ (b : Bool). answer_by b p.bytes) q ∙ ap (answer_by false) p.paged.counted ∙ sym (ap (λ (x : Option Refusal). wrote_by x w) c);
            room = p.paged.room ∙ ap (λ (b : Bool). room_by b w old) g ∙ sym (ap (λ (x : Option Refusal). room_after x w old) c);
          }

    pub good-list : length s ≤ input_bound → bad_node R (length s) ws ≡ none → length old < most → Put w old new r → WroteList listed w old new r
    good-list l e small p = by-fit (short l none e) small p p.fits refl
