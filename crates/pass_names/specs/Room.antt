-- Room for what a pass culls and breaks.
use Rattle.std.specs.Prelude.{◌≡◌, ℕ, ◌≤◌, [], vec_capacity}
use Rattle.pass_names.specs.declared.room.NameRoom.{NameRoom}

-- there is room for so many culls and breaks, and nothing is listed yet
pub record HasRoomFor (room : NameRoom) (culls breaks : ℕ) : Type 0 where
  pub no_places : room.places.items ≡ []
  pub no_culls : room.culls.items ≡ []
  pub no_breaks : room.breaks.items ≡ []
  pub places_fit : culls ≤ vec_capacity room.places
  pub culls_fit : culls ≤ vec_capacity room.culls
  pub breaks_fit : breaks ≤ vec_capacity room.breaks
