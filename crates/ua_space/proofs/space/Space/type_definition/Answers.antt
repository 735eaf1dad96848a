use Rattle.std.proofs.Common.{◌≡◌, ◌∙◌, ap, filter}
use Rattle.std.specs.Option.{option_map}
use Rattle.ua_space.specs.Indexes.{stands_under}
use Rattle.ua_space.specs.Nodes.{SpaceState}
use Rattle.ua_space.specs.References.{type_definition_of}
use Rattle.ua_space.specs.declared.index.Key.TheVariants as keys
use Rattle.ua_space.specs.declared.triple.Triple.{Triple}
use Rattle.ua_space.proofs.Referring.{definition_found}
use Rattle.ua_space.proofs.space.Space.type_definition.Goals as goal

pub returns-in-None : goal.returns-in-None
returns-in-None c =
    let list : c.new-definitions.result ≡ filter (stands_under keys.Definition c.args.id.now) c.self.inside.triples.items =
    c.new-definitions.ensures ∙ rw (c.as_slice-triples.ensures.value, c.places_at.ensures) (c.self.invariant.indexes.definitions c.args.id.now).0 in
    ap (option_map (λ (t : Triple). t.target)) c.in-None.ensures
    ∙ definition_found c.args.id.now c.self.inside.triples.items c.new-definitions.result list
    ∙ ap (λ (s : SpaceState). type_definition_of c.args.id.now s.triples) c.self.view_is

pub returns-in-Some : goal.returns-in-Some
returns-in-Some c =
    let list : c.new-definitions.result ≡ filter (stands_under keys.Definition c.args.id.now) c.self.inside.triples.items =
    c.new-definitions.ensures ∙ rw (c.as_slice-triples.ensures.value, c.places_at.ensures) (c.self.invariant.indexes.definitions c.args.id.now).0 in
    ap (option_map (λ (t : Triple). t.target)) c.in-Some.ensures
    ∙ definition_found c.args.id.now c.self.inside.triples.items c.new-definitions.result list
    ∙ ap (λ (s : SpaceState). type_definition_of c.args.id.now s.triples) c.self.view_is
