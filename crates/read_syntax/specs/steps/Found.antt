-- A refusal as the code hands it on. Assumes nothing: these are definitions.
use Rattle.std.specs.Prelude as std
use Rattle.std.specs.Prelude.{Some, None}
use Rattle.std.proofs.Math.Option.{Option, none, some}
use Rattle.grammar.specs.Refusal.{Refusal}
use Rattle.read_syntax.specs.declared.syntax.Found.{Found}

abbrev pub found : Option Refusal → std.Option Found
found none = None
found (some r) = Some (record { number = r.number; place = r.place })
