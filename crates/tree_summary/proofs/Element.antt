-- One element of a `&κ mut [S]` where S is a declared struct of plain data: it is taken out of the row, read or written as a whole, and put back.
-- It says nothing of the crate, and can be copied as it stands.
-- They are `Denote/Index.antt`'s `elem_out`, `elem_back` and `elem_put` at a declared type T with its laws L (`S.the_type`, and `the_laws` of `S.Laws`), with two things done once:
-- what an element owns is plain, so it is let go and made anew of the type's relation; and its place is spelled i * size + o, as MIR's `mul` and `offset` compute it.
--     spot R o i       where element i lies, from the offset o.        index-fits       i * size fits a usize, where i is below the count: by the slice's `Room`
--     at-elem q T v i b o      the share q of the one cell of element i, which holds v. It stands at the raw form of the struct's type: `Types/Run.antt`'s `look_raw` reads it, `store_raw` writes it
--     struct-out       element i is taken out of a row, at its machine value, with its relation in hand
--     struct_back      it is put back as it was.        struct-put       another value is put in its place: the row is then ys with y at i
-- `opens_slice` before and `closes_slice` after, for a `&mut [S]`; `looks_slice` and `shuts_slice` with `struct_back`, for a `&[S]`. The others of the row stand right behind the element.
-- Assumes `Logic`.
use mathlib.Core.Path.{refl, sym}
use Prim.Native.Nat.{ℕ, ◌+◌, ◌*◌, ◌<◌}
use mathlib.Core.List.{List, [], ◌∷◌}
use lib.ListN.{length, get_or, set}
use seplogic.Ra.Ura.{Ura}
use base.Fraction.{full_share}
use mir.Syntax.{w64}
use mir.Val.{Val, Fits}
use base.Fml.{Share, Fml}
use types.Logic.{Logic}
use types.Kit.{Goal, Item, ‵, Seq, Step, step, ◌$◌, move, drop, rewrite}
use borrow.Author.Rules.{scaled_Fits}
use denote.RattleType.{RattleType}
use denote.Laws.{Is, shows}
use denote.Memory.{cell_at, mem, shares}
use denote.Slice.{Room}
use denote.Index.{place_is, others, row, elem_out, elem_back, elem_put}
use denote.Steps.{owned}
use denote.Struct.Declared as D
use denote.Struct.Declared.{Declared}
use denote.Struct.Struct.{Plains}
use denote.Struct.Laws as LL

-- where element i lies, as MIR computes it
abbrev pub spot : RattleType → ℕ → ℕ → ℕ
spot R o i = i * (mem R).size + o

-- element i's cell, which holds v
abbrev pub at-elem : Share → Declared → Val → ℕ → ℕ → ℕ → Fml
at-elem q T v i b o = cell_at q (D.row T).mir (v ∷ []) b (spot (D.row T) o i)

pub index-fits : (R : RattleType) (i n : ℕ) → i < n → Room R n → Fits w64 (i * (mem R).size)
index-fits R i n within room = scaled_Fits i n (mem R).size within room.1

module _ {M : Type 1} {𝓤 : Ura M} {𝓛 : Logic 𝓤} {K : Type 0} {Γ : List (Item 𝓤)} {G : Goal 𝓤 𝓛.H} where
  pub struct-out : K → (T : Declared) (L : LL.Laws T) (q : Share) (ys : List T.D) (i : ℕ) (d : T.D) (b o : ℕ) → i < length ys
      → (Is (D.row T) (get_or ys i d) (LL.vals T L (get_or ys i d))
      → Seq K 𝓛 (‵ (at-elem q T (LL.val T L (get_or ys i d)) i b o) ∷ ‵ (others (shares (D.row T)) q ys i b o) ∷ Γ) G)
      → Seq K 𝓛 (‵ (row (D.row T) q ys b o) ∷ Γ) G
  struct-out t T L q ys i d b o within k =
      elem_out t (D.row T) (Is (D.row T)) (shows 𝓛 (D.row T)) (LL.vals T L) (LL.tells T L) q ys i d b o within (λ is. move t (1 ∷ []) $ drop t $
      rewrite t 0 (λ (p : ℕ). ‵ (cell_at q (D.row T).mir (LL.vals T L (get_or ys i d)) b p)) (place_is (mem (D.row T)).size o i) refl $ k is)

  module _ (t : K) (T : Declared) (pl : Plains (D.fields T)) where
    pub struct_back : (q : Share) (ys : List T.D) (i : ℕ) (d : T.D) (v : Val) (b o : ℕ) → i < length ys → Is (D.row T) (get_or ys i d) (v ∷ [])
        → Step K 𝓛 (‵ (row (D.row T) q ys b o) ∷ Γ) G (‵ (at-elem q T v i b o) ∷ ‵ (others (shares (D.row T)) q ys i b o) ∷ Γ) G
    struct_back q ys i d v b o within is = step (λ s.
        rewrite t 0 (λ (p : ℕ). ‵ (cell_at q (D.row T).mir (v ∷ []) b p)) (sym (place_is (mem (D.row T)).size o i)) refl $
        owned t (D.row T) (Is (D.row T)) (LL.makes T pl 𝓛) (get_or ys i d) (v ∷ []) is $ move t (1 ∷ 0 ∷ []) $ elem_back t (D.row T) q ys i d (v ∷ []) b o within $ s)

    pub struct-put : (ys : List T.D) (i : ℕ) (y : T.D) (v : Val) (b o : ℕ) → i < length ys → Is (D.row T) y (v ∷ [])
        → Step K 𝓛 (‵ (row (D.row T) full_share (set ys i y) b o) ∷ Γ) G (‵ (at-elem full_share T v i b o) ∷ ‵ (others (shares (D.row T)) full_share ys i b o) ∷ Γ) G
    struct-put ys i y v b o within is = step (λ s.
        rewrite t 0 (λ (p : ℕ). ‵ (cell_at full_share (D.row T).mir (v ∷ []) b p)) (sym (place_is (mem (D.row T)).size o i)) refl $
        owned t (D.row T) (Is (D.row T)) (LL.makes T pl 𝓛) y (v ∷ []) is $ move t (1 ∷ 0 ∷ []) $ elem_put t (D.row T) full_share ys i y (v ∷ []) b o within $ s)
