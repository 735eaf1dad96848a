use Rattle.std.proofs.Common.{◌/◌, ◌%◌, nat_eq, slice_index_or, sym, ap, ◌∙◌, arith}
use Rattle.std.proofs.lemmas.Nat.Bits.{shr_and_one}
use Rattle.ua_space.specs.Marks.{is_marked}
use Rattle.ua_space.proofs.Bits.{bit_is, inside}
use Rattle.ua_space.proofs.marks.Marks.has.Goals as goal

pub bounds-self-inside-number : goal.bounds-self-inside-number
bounds-self-inside-number g c = let lt = inside c.self.inside.words _ c.args.self.now c.args.number c.self.view_is c.requires in omega (arith, lt)

pub returns : goal.returns
returns g c =
    ap (λ b. nat_eq b 1) (shr_and_one (slice_index_or c.self.inside.words (c.args.number / 64) 0) (c.args.number % 64))
    ∙ sym (bit_is c.self.inside.words _ c.args.number (inside c.self.inside.words _ c.args.self.now c.args.number c.self.view_is c.requires))
    ∙ ap (λ m. is_marked m c.args.number) c.self.view_is
