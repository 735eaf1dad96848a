use Rattle.std.proofs.Common.{true, slice_set, ap, ◌∙◌, arith}
use Rattle.ua_space.proofs.Bits.{bit_added, inside}
use Rattle.ua_space.proofs.marks.Marks.add.Goals as goal

pub bounds-self-inside-number : goal.bounds-self-inside-number
bounds-self-inside-number g c = let lt = inside c.self.inside.words _ c.args.self.now c.args.number c.self.view_is c.requires in omega (arith, lt)

pub bounds-self-inside-number-2 : goal.bounds-self-inside-number-2
bounds-self-inside-number-2 g c = let lt = inside c.self.inside.words _ c.args.self.now c.args.number c.self.view_is c.requires in omega (arith, lt)

pub returns : goal.returns
returns g c =
    let lt = inside c.self.inside.words _ c.args.self.now c.args.number c.self.view_is c.requires in
    bit_added c.self.inside.words _ c.args.number lt (omega (arith, lt, c.self.told))
    ∙ ap (λ m. slice_set m c.args.number true) c.self.view_is
