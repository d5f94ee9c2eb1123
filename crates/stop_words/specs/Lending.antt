-- A `Gathered` while its parcels are lent out. This project's own.
use Rattle.std.specs.Prelude.{List}
use Rattle.std.specs.Borrow.{Lends, MutBor, Fml, Array, RattleType}
use Rattle.std.specs.Vec.{with_items}
use Rattle.stop_words.specs.declared.gather.Gathered.{Gathered}
use Rattle.stop_words.specs.contracts.gather.Gathered.{the_row}

module _ (R : RattleType) where
  -- the same with other parcels
  abbrev pub with_parcels : Gathered R.Denot → List R.Denot → Gathered R.Denot
  with_parcels gathered parcels = record gathered { parcels = with_items gathered.parcels parcels }

  -- the parcels end as the last value behind r
  abbrev pub LendsParcels : MutBor (Gathered R.Denot) → MutBor (List R.Denot) → Fml
  LendsParcels gathered r = Lends (the_row R) (Array R 0) gathered r (with_parcels gathered.now)
