-- The lake question on the tables of a grammar, as code says it (01, Meaning of a match, "Other calls"). Assumes nothing: these are definitions.
use Rattle.std.specs.Prelude.{ℕ, ◌≡◌, Bool, true, false, not, ◌&&◌, List, [], length, get_or, leb, ltb, Option, None, Some}
use Rattle.std.proofs.Math.Option.{Option as Maybe, none, some}
use Rattle.read_tokens.specs.declared.Mode.{Mode}
use Rattle.read_tokens.specs.Token.{name}
use Rattle.grammar.specs.Numbers.{numbered, is_lake}
use Rattle.grammar.specs.Refusal.{Refusal, refuse_if, ◌▸◌}
use Rattle.read_syntax.specs.Reading.{rules_of}
use Rattle.lake_rules.specs.Analysis.{lake_alt}
use Rattle.lake_sets.specs.steps.Steps.{alt_in}
use Rattle.lake_analysis.specs.steps.Lent.{lake_in}
use Rattle.lake_step_two.specs.steps.Stepped.{plain_of}
use Rattle.match_cells.specs.steps.Runs.{Plain}
use Rattle.match_lake.specs.declared.ways.Way.TheVariants.{Not}
use Rattle.match_lake.specs.Asking.{way_in}
use Rattle.match_lake.specs.steps.Ways.{way_of}
use Rattle.match_run.specs.steps.Runs.{refuses_room, filled_by}
use Rattle.prepare.specs.declared.Verdict.{Verdict}
use Rattle.prepare.specs.declared.Verdict.TheVariants.{Accepted, Refused as VerdictRefused}
use Rattle.prepare.specs.Prepare.{Prepared, prepared, refuses}
use Rattle.prepare.specs.Reads.{read_of, is_refused}
use Rattle.match_ask.specs.declared.LakeAlt.{LakeAlt}
use Rattle.match_ask.specs.declared.LakeWay.{LakeWay}

-- a refusal, handed on
abbrev pub not_asked : Verdict → LakeWay
not_asked v = record { way = Not; verdict = v }

-- ── the answer, and every cell after it ──
pub record Lent : Type 0 where
  pub answer : LakeWay
  pub cells : List ℕ

abbrev pub lent : LakeWay → List ℕ → Lent
lent r cs = record { answer = r; cells = cs }

-- "a lake, by its symbol number"
abbrev pub is_lake_of : Prepared → ℕ → Bool
is_lake_of p l = ltb l (length p.grammar.names) && is_lake (get_or p.grammar.names l (name []))

-- 14: no such lake or position
abbrev pub is_there : Prepared → List ℕ → ℕ → ℕ → Bool
is_there p s l q = is_lake_of p l && leb q (length s)

abbrev pub asked_after : Maybe Refusal → Prepared → List ℕ → List ℕ → ℕ → ℕ → Lent
asked_after (some r) p s cs l q = lent (not_asked (VerdictRefused r.number r.place)) cs
asked_after none p s cs l q =
    lent
    (record { way = way_of (way_in p.grammar s (filled_by p.bodies s cs) (length p.bodies) (lake_alt p.analysis l) l q); verdict = Accepted })
    (filled_by p.bodies s cs)

-- 9, 10, then 14
abbrev pub asked_of : Prepared → List ℕ → List ℕ → ℕ → ℕ → Lent
asked_of p s cs l q = asked_after (refuses_room p.bodies s cs ▸ refuse_if (not (is_there p s l q)) 14 0) p s cs l q

-- ── what is asked of a symbol ──
-- the ALT of symbol l of an intermediate grammar of n symbols, if that is a lake
abbrev pub LakeIn : List ℕ → List (List ℕ) → ℕ → ℕ → Option (List ℕ) → Type 0
LakeIn mid alts n l None = (ltb l n && lake_in mid l) ≡ false
LakeIn mid alts n l (Some a) = ((ltb l n && lake_in mid l) ≡ true) × (a ≡ alt_in mid alts l)

abbrev pub AltOf : Prepared → ℕ → Option (List ℕ) → Type 0
AltOf p l None = is_lake_of p l ≡ false
AltOf p l (Some a) = (is_lake_of p l ≡ true) × (a ≡ lake_alt p.analysis l)

-- of a text that is accepted: the table of its plain form, and all that is asked of a symbol
pub record Stood (m : Mode) (s out : List ℕ) (r : LakeAlt) : Type 0 where
  pub clear : refuses m s ≡ none
  pub plain : Plain out (numbered (rules_of m s)) (plain_of (numbered (rules_of m s)))
  pub alt : AltOf (prepared m s) r.symbol r.alt

-- the verdict on a text, and that where it is no refusal
pub record Looked (m : Mode) (s out : List ℕ) (l : ℕ) (r : LakeAlt) : Type 0 where
  pub answer : r.verdict ≡ (read_of m s).verdict
  pub symbol : r.symbol ≡ l
  pub stood : is_refused r.verdict ≡ false → Stood m s out r
