use Rattle.std.proofs.Common.{◌≡◌, ℕ, ◌-◌, List, ◌++◌, length, arith, ap, ◌∙◌}
use Rattle.std.proofs.lemmas.List.{length-append}
use Rattle.std.specs.Int.{w32}
use Rattle.ua_binary.specs.Numbers.{number_encoding}
use Rattle.ua_messages.proofs.SizedLemmas.{four_bytes, sized_in_place}
use Rattle.ua_messages.proofs.structures_in_place.write_sized.Goals as goal

pub put_number-requires : goal.put_number-requires
put_number-requires g c =
    let front : List ℕ = c.args.out.now.items in
    let bytes : List ℕ = g.W.Written.encoding c.args.value.now in
    let all : c.write.new.out.items ≡ (front ++ number_encoding w32 0) ++ bytes = rw c.in_ok-encode.ensures.ok at c.in_ok-write.ensures.ok in
    omega (arith, ap length all, length-append (front ++ number_encoding w32 0) bytes, length-append front (number_encoding w32 0), four_bytes 0)

pub returns-clause-ok : goal.returns-clause-ok
returns-clause-ok g c =
    let front : List ℕ = c.args.out.now.items in
    let bytes : List ℕ = g.W.Written.encoding c.args.value.now in
    let all : c.write.new.out.items ≡ (front ++ number_encoding w32 0) ++ bytes = rw c.in_ok-encode.ensures.ok at c.in_ok-write.ensures.ok in
    let here : c.len-at.result ≡ length front = omega arith in
    let size : c.len.result - c.len-start.result ≡ length bytes =
    omega (arith, ap length c.in_ok-write.ensures.ok, length-append c.encode.new.out.items bytes) in
    c.put_number.ensures ∙ sized_in_place front (number_encoding w32 0) bytes c.write.new.out.items c.len-at.result (c.len.result - c.len-start.result) here (four_bytes 0) all size
