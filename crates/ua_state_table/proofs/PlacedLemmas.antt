-- What stands in the places of a row's conditions.
use Rattle.std.specs.Prelude.{◌≡◌, refl}
use Rattle.ua_state_table.specs.declared.row.RowId.{RowId}
use Rattle.ua_state_table.specs.declared.row.RowId.TheVariants.{C1, C2, N1, N2, N3, N4, N5, N6, L1, L2, L3, K1, K2, K3, K4, K5, G1, G2, G3, G4, G5, G6, G7, G8, G9, G10}
use Rattle.ua_state_table.specs.StateTable.{conditions_of}
use Rattle.ua_state_table.specs.Rows.{row_of, placed_in}

pub conditions_in_places : (r : RowId) → placed_in (row_of r).conditions ≡ conditions_of r
conditions_in_places C1 = refl
conditions_in_places C2 = refl
conditions_in_places N1 = refl
conditions_in_places N2 = refl
conditions_in_places N3 = refl
conditions_in_places N4 = refl
conditions_in_places N5 = refl
conditions_in_places N6 = refl
conditions_in_places L1 = refl
conditions_in_places L2 = refl
conditions_in_places L3 = refl
conditions_in_places K1 = refl
conditions_in_places K2 = refl
conditions_in_places K3 = refl
conditions_in_places K4 = refl
conditions_in_places K5 = refl
conditions_in_places G1 = refl
conditions_in_places G2 = refl
conditions_in_places G3 = refl
conditions_in_places G4 = refl
conditions_in_places G5 = refl
conditions_in_places G6 = refl
conditions_in_places G7 = refl
conditions_in_places G8 = refl
conditions_in_places G9 = refl
conditions_in_places G10 = refl
