-- `fields::offsets::offset_value` meets its contract. Assumes nothing.
use Prim.Native.Nat.{◌≤◌}
use mathlib.Core.Path.{◌∙◌}
use native.Mathlib.Omega.{arith}
use lib.ListN.{length-take, length-drop}
use mir.Syntax.{w64}
use mir.ValLaws.{to_z-of_z}
use Rattle.metafile.specs.Fields.{second}
use Rattle.fields.proofs.Offset.{hours-le, minutes-le, seconds-lt, offset-value}
use Rattle.fields.proofs.offsets.offset_value.Goals as goal
use Rattle.fields.proofs.offsets.offset_value.Goals.{After-number_at-minutes}

-- hours and minutes are small
times : (c : After-number_at-minutes) → (c.number_at-hours.result ≤ 23) × (c.number_at-minutes.result ≤ 59)
times c =
    let b = c in (
      rw c.number_at-hours.ensures (hours-le b.args.s.now b.requires.s_value),
      rw c.number_at-minutes.ensures (minutes-le b.args.s.now b.requires.s_value),
    )

pub overflow_mul-units : goal.overflow_mul-units
overflow_mul-units c = omega (arith, times c)

pub overflow_mul-units-2 : goal.overflow_mul-units-2
overflow_mul-units-2 c = omega (arith, times c)

pub overflow_add-units : goal.overflow_add-units
overflow_add-units c = omega (arith, times c)

pub overflow_mul-units-3 : goal.overflow_mul-units-3
overflow_mul-units-3 c = omega (arith, times c)

pub seconds_value-requires : goal.seconds_value-requires
seconds_value-requires c =
    let b = c in record { s_len = simp (length-take, length-drop) (omega arith); s_bound = seconds-lt b.args.s.now b.requires.s_value }

pub overflow_add-units-2 : goal.overflow_add-units-2
unfolding second
overflow_add-units-2 c =
    let b = c in
    omega (arith, times (goal.at.overflow_add-units-2 c).After-number_at-minutes, c.seconds_value.ensures, seconds-lt b.args.s.now b.requires.s_value)

pub signed-requires : goal.signed-requires
unfolding second
signed-requires c =
    let b = c in
    omega (arith, times (goal.at.signed-requires c).After-number_at-minutes, c.seconds_value.ensures, seconds-lt b.args.s.now b.requires.s_value)

pub returns : goal.returns
returns c =
    let k = c in
    to_z-of_z w64 c.signed.result (record { sfits = c.signed.type_inv })
    ∙ c.signed.ensures
    ∙ offset-value k.args.s.now _ _ _ (omega arith)
    k.number_at-hours.ensures k.number_at-minutes.ensures c.seconds_value.ensures
