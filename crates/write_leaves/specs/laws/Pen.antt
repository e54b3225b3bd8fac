-- Bytes written one after the other. Assumes nothing.
use Rattle.std.specs.Prelude.{ℕ, zero, suc, ◌+◌, ◌≤◌, ◌<◌, min, ◌≡◌, refl, Bool, true, false, ◌⊎◌, List, [], ◌∷◌, ◌++◌, length, set, cond, leb}
use Rattle.std.proofs.Common.{sym, ap, ap₂, ◌∙◌, subst, inl, inr, ⊎_elim, arith, add-one, length-set, length-append}
use borrow.Author.Tests.{lt-leb, le-leb}
use Rattle.std.proofs.Math.Decide.{dec_lt}
use Rattle.std.proofs.Math.Seq.{set_out}
use Rattle.write_leaves.specs.declared.bytes.Pen.{Pen}
use Rattle.write_leaves.specs.steps.Pen.{most, inked, Penned, moved, after_one, after}

pub inked-length : (w : Bool) (bs out : List ℕ) (at : ℕ) → length (inked w bs out at) ≡ length out
unfolding inked
inked-length w [] out at = refl
inked-length true (b ∷ bs) out at = inked-length true bs (set out at b) (suc at) ∙ length-set out at b
inked-length false (b ∷ bs) out at = inked-length false bs out (suc at)

pub inked-append : (w : Bool) (xs bs out : List ℕ) (at : ℕ) → inked w (xs ++ bs) out at ≡ inked w bs (inked w xs out at) (at + length xs)
unfolding inked
inked-append w [] bs out at = let e : at ≡ at + 0 = omega arith in ap (inked w bs out) e
inked-append true (a ∷ xs) bs out at =
    let e : suc at + length xs ≡ at + suc (length xs) = omega arith in
    inked-append true xs bs (set out at a) (suc at) ∙ ap (inked true bs (inked true xs (set out at a) (suc at))) e
inked-append false (a ∷ xs) bs out at =
    let e : suc at + length xs ≡ at + suc (length xs) = omega arith in
    inked-append false xs bs out (suc at) ∙ ap (inked false bs (inked false xs out (suc at))) e

-- past the end nothing is stored
pub inked-past : (w : Bool) (bs out : List ℕ) (at : ℕ) → length out ≤ at → inked w bs out at ≡ out
unfolding inked
inked-past w [] out at h = refl
inked-past true (b ∷ bs) out at h = ap (λ (o : List ℕ). inked true bs o (suc at)) (set_out out at b h) ∙ inked-past true bs out (suc at) (omega arith)
inked-past false (b ∷ bs) out at h = inked-past false bs out (suc at) (omega arith)

pub inked-none : (bs out : List ℕ) (at : ℕ) → inked false bs out at ≡ out
unfolding inked
inked-none [] out at = refl
inked-none (b ∷ bs) out at = inked-none bs out (suc at)

-- a place at which counting has stopped is past the end
inked-most : (w : Bool) (bs out : List ℕ) (n : ℕ) → length out < most → inked w bs out (min most n) ≡ inked w bs out n
inked-most w bs out n h = go (dec_lt n most)
  where
    go : Dec (n < most) → inked w bs out (min most n) ≡ inked w bs out n
    go (yes p) = let e : min most n ≡ n = omega arith in ap (inked w bs out) e
    go (no p) = let e : min most n ≡ most = omega arith in ap (inked w bs out) e ∙ inked-past w bs out most (omega arith) ∙ sym (inked-past w bs out n (omega arith))

-- nothing, one byte, and one text behind another
pub penned-none : (w : Bool) (old : List ℕ) (at : ℕ) → at ≤ most → Penned w [] old at old at
unfolding inked
penned-none w old at h = record { room = refl; place = omega arith }

pub on : {w : Bool} {a b old mid new : List ℕ} {at r x : ℕ} → length old < most → Penned w a old at mid r → Penned w b mid r new x → Penned w (a ++ b) old at new x
on {w} {a} {b} {old} {mid} {new} {at} {r} {x} h p q = record {
  room = q.room
      ∙ ap (inked w b mid) p.place
      ∙ inked-most w b mid (at + length a) (rw p.room (rw (inked-length w a old at) h))
      ∙ ap (λ (o : List ℕ). inked w b o (at + length a)) p.room
      ∙ sym (inked-append w a b old at);
  place = omega (arith, q.place, p.place, length-append a b);
}

pub penned-is : {w : Bool} {a b old new : List ℕ} {at r : ℕ} → a ≡ b → Penned w a old at new r → Penned w b old at new r
penned-is {w} {a} {b} {old} {new} {at} {r} e p = subst (λ (x : List ℕ). Penned w x old at new r) e p

pub penned-long : {w : Bool} {a old new : List ℕ} {at r : ℕ} → Penned w a old at new r → length new ≡ length old
penned-long {w} {a} {old} {new} {at} {r} p = ap length p.room ∙ inked-length w a old at

pub penned-most : {w : Bool} {a old new : List ℕ} {at r : ℕ} → Penned w a old at new r → r ≤ most
penned-most p = omega (arith, p.place)

-- ── a pen ──
pub after-append : (p : Pen) (xs ys : List ℕ) → after p (xs ++ ys) ≡ after (after p xs) ys
unfolding after
after-append p [] ys = refl
after-append p (b ∷ xs) ys = after-append (after_one p b) xs ys

-- a byte where the pen stands
pub put-one : (p : Pen) (b : ℕ) {out : List ℕ} {at : ℕ} → out ≡ set p.out.now p.at b → at ≡ cond (leb most p.at) p.at (p.at + 1) → moved p out at ≡ after p (b ∷ [])
unfolding after
put-one p b e f = rw (e, f)

-- one text behind another
pub then : (p : Pen) (a b : List ℕ) {q r : Pen} → q ≡ after p a → r ≡ after q b → r ≡ after p (a ++ b)
then p a b e f = f ∙ ap (λ (x : Pen). after x b) e ∙ sym (after-append p a b)

pub said : (p : Pen) {a b : List ℕ} {q : Pen} → a ≡ b → q ≡ after p a → q ≡ after p b
said p e f = f ∙ ap (after p) e

-- in a loop that writes what is left gives the whole
pub less : (p : Pen) (a rest : List ℕ) {b : List ℕ} {q w : Pen} → after p b ≡ w → b ≡ a ++ rest → q ≡ after p a → after q rest ≡ w
less p a rest l e f = ap (λ (x : Pen). after x rest) f ∙ sym (after-append p a rest) ∙ ap (after p) (sym e) ∙ l

pub done : (p : Pen) (a : List ℕ) {w : Pen} → after p a ≡ w → a ≡ [] → p ≡ w
unfolding after
done p a l e = ap (after p) (sym e) ∙ l

-- from a place on in room a pen leaves what Penned says, and it counts what Penned says without the flag
counts : (at : ℕ) → at ≤ most → cond (leb most at) at (at + 1) ≡ min most (at + 1)
counts at h = go (dec_lt at most)
  where
    go : Dec (at < most) → cond (leb most at) at (at + 1) ≡ min most (at + 1)
    go (yes k) = rw (lt-leb most at k) (omega arith)
    go (no k) = rw (le-leb most at (omega arith)) (omega arith)

-- without room a pen only counts, and not past `most`
pub counts-on : (p : Pen) (bs : List ℕ) → length p.out.now ≤ p.at → p.at ≤ most → moved p p.out.now (min most (p.at + length bs)) ≡ after p bs
unfolding after
counts-on p [] l h = let e : min most (p.at + 0) ≡ p.at = omega arith in rw e
counts-on p (b ∷ bs) l h =
    let o : (after_one p b).out.now ≡ p.out.now = set_out p.out.now p.at b l in
    let e : (after_one p b).at ≡ min most (p.at + 1) = counts p.at h in
    let k : min most (p.at + suc (length bs)) ≡ min most ((after_one p b).at + length bs) = omega (arith, e, h) in
    ap₂ (moved p) (sym o) k ∙ counts-on (after_one p b) bs (omega (arith, ap length o, e, l, h)) (omega (arith, e))

pub stops : (p : Pen) (bs : List ℕ) → length p.out.now ≤ p.at → most ≤ p.at → p ≡ after p bs
unfolding after
stops p [] l h = refl
stops p (b ∷ bs) l h = stops p bs l h ∙ ap (λ (q : Pen). after q bs) (ap₂ (moved p) (sym (set_out p.out.now p.at b l)) (rw (le-leb most p.at h)))

pub after-place : (p : Pen) (bs : List ℕ) → p.at ≤ most → (after p bs).at ≡ min most (p.at + length bs)
unfolding after
after-place p [] h = omega arith
after-place p (b ∷ bs) h = omega (arith, after-place (after_one p b) bs (omega (arith, counts p.at h)), counts p.at h)

pub pen-counts : (p : Pen) (bs old : List ℕ) → p.at ≤ most → Penned false bs old p.at old (after p bs).at
unfolding after
pen-counts p bs old h = record { room = sym (inked-none bs old p.at); place = after-place p bs h }

one : (p : Pen) (b : ℕ) → p.at ≤ most → Penned true (b ∷ []) p.out.now p.at (set p.out.now p.at b) (after_one p b).at
unfolding inked
one p b h = record { room = refl; place = counts p.at h }

pub pen-writes : (p : Pen) (bs : List ℕ) → p.at ≤ most → length p.out.now < most → Penned true bs p.out.now p.at (after p bs).out.now (after p bs).at
unfolding after
pen-writes p [] h l = penned-none true p.out.now p.at h
pen-writes p (b ∷ bs) h l = on l (one p b h) (pen-writes (after_one p b) bs (omega (arith, counts p.at h)) (rw (length-set p.out.now p.at b) l))

-- the room is the same room
pub same_room : (p : Pen) (bs : List ℕ) → (after p bs).out.ghost_name ≡ p.out.ghost_name
unfolding after
same_room p [] = refl
same_room p (b ∷ bs) = same_room (after_one p b) bs

-- from the front of the room
module _ (p : Pen) {q : Pen} (bs : List ℕ) (z : p.at ≡ 0) (e : q ≡ after p bs) where
  pub counted : (old : List ℕ) → Penned false bs old 0 old q.at
  counted old = subst (λ (a : ℕ). Penned false bs old a old q.at) z
      (subst (λ (x : Pen). Penned false bs old p.at old x.at) (sym e) (pen-counts p bs old (omega (arith, z))))

  pub wrote : length p.out.now < most → Penned true bs p.out.now 0 q.out.now q.at
  wrote l = subst (λ (a : ℕ). Penned true bs p.out.now a q.out.now q.at) z
      (subst (λ (x : Pen). Penned true bs p.out.now p.at x.out.now x.at) (sym e) (pen-writes p bs (omega (arith, z)) l))

  pub same_name : q.out.ghost_name ≡ p.out.ghost_name
  same_name = ap (λ (x : Pen). x.out.ghost_name) e ∙ same_room p bs
