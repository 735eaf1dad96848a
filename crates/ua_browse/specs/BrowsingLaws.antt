-- What follows from the definition of browsing: its pages joined are the whole list.
use Rattle.std.specs.Prelude.{◌≡◌, ◌<◌, ℕ, zero, suc, List, [], ◌++◌, length, drop, map, filter, Option, Some, None}
use Rattle.ua_service_messages.specs.declared.browsing.BrowseDescription.{BrowseDescription}
use Rattle.ua_space.specs.Nodes.{SpaceState}
use Rattle.ua_space.specs.References.{Directed, references_of}
use Rattle.ua_browse.specs.Browsing.{shown_of, next_of}
use Rattle.ua_browse.specs.Wanted.{Placed, wanted_from, is_wanted}

-- the references of a list with places
abbrev pub plain : List Placed → List Directed
plain ps = map (λ p. p.reference) ps

-- From its beginning on, what is wanted is the list of the node's references, filtered
abbrev pub BrowsesByFilter : Type 0
BrowsesByFilter = (space : SpaceState) (d : BrowseDescription) → plain (wanted_from space d 0) ≡ filter (is_wanted space d) (references_of d.node_id space.triples)

-- The next page begins with the slice after this one
abbrev pub NextIsTheSliceAfter : Type 0
NextIsTheSliceAfter = (space : SpaceState) (d : BrowseDescription) (size place next : ℕ) →
    next_of size (wanted_from space d place) ≡ Some next → wanted_from space d next ≡ drop size (wanted_from space d place)

abbrev pub joined_from : (ℕ → List Placed) → Option ℕ → List Placed
joined_from further None = []
joined_from further (Some next) = further next

-- at most so many pages, one after the other, each from the place at which the one before it says that it begins
abbrev pub joined : SpaceState → BrowseDescription → ℕ → ℕ → ℕ → List Placed
joined space d size zero place = []
joined space d size (suc pages) place =
    shown_of size (wanted_from space d place) ++ joined_from (joined space d size pages) (next_of size (wanted_from space d place))

-- All pages joined are the whole list, none of it repeated and none skipped, whatever their size
abbrev pub PagesJoinToAll : Type 0
PagesJoinToAll = (space : SpaceState) (d : BrowseDescription) (size pages place : ℕ) →
    0 < size → length (wanted_from space d place) < pages → joined space d size pages place ≡ wanted_from space d place
