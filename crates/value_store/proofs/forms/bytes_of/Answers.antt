use Rattle.std.proofs.Common.{◌≡◌, ◌∙◌, ap, subst, [], ◌++◌, Ok, append-nil}
use Rattle.ua_binary.specs.Variants.{variant_reading, variant_encoding}
use Rattle.value_store.specs.Forms.{whole}
use Rattle.value_store.proofs.forms.bytes_of.Goals as goal

pub returns : goal.returns
returns c =
    let v = c.args.value.now in
    let written : c.put.new.out.items ≡ variant_encoding v = c.in_ok-put.ensures.ok ∙ ap (λ front. front ++ variant_encoding v) c.new-bytes.ensures.items in
    let again : variant_reading (variant_encoding v) ≡ Ok (v, []) = subst (λ bytes. variant_reading bytes ≡ Ok (v, [])) (append-nil (variant_encoding v)) (c.in_ok-put.ensures.again []) in
    ap whole (ap variant_reading written ∙ again)
