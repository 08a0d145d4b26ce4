-- The definitions on worked rows.
use Rattle.std.proofs.Common.{◌≡◌, true, false, List, [], ◌∷◌, refl}
use Rattle.std.specs.Prelude.{pos}
use Rattle.clf_tree.specs.declared.scopes.Scopes.{Scopes}
use Rattle.set_bits.specs.declared.sets.Member.{Member}
use Rattle.set_bits.specs.declared.layout.Layout.{Layout}
use Rattle.node_encoder.specs.declared.gathering.Step.TheVariants as step
use Rattle.told_constraints.specs.Told.{is_listed}
use Rattle.std.specs.List.{list_all}
use Rattle.std.specs.Prelude.{nat_lt}
use Rattle.node_encoder.specs.Gathering.{edges_of}
use Rattle.node_encoder.specs.Leaves.{own_members, members_of}
use Rattle.node_encoder.specs.Listing.{room}

-- two nodes of clafer 0, and one of clafer 1 that may stand under either
layout : Layout
layout = record {
  slots = record { clafer = 0; number = 0 } ∷ record { clafer = 0; number = 1 } ∷ record { clafer = 1; number = 0 } ∷ [];
  live = record { number = 0 } ∷ record { number = 1 } ∷ record { number = 2 } ∷ [];
  parents = record { from = 2; to = 0; here = record { number = 3 } } ∷ record { from = 2; to = 1; here = record { number = 4 } } ∷ [];
  targets = [];
  values = [];
}

scopes : Scopes
scopes = record { of = 2 ∷ 1 ∷ []; low = pos 0; high = pos 1 }

both_rooms : room scopes (0 ∷ 1 ∷ []) ≡ 3
unfolding scopes
both_rooms = refl

no_room : room scopes (7 ∷ []) ≡ 0
unfolding scopes
no_room = refl

own_members-second : own_members layout 1 ≡ record { slot = 1; here = record { number = 1 } } ∷ []
unfolding layout
own_members-second = refl

own_members-none : own_members layout 3 ≡ []
unfolding layout
own_members-none = refl

members_of-first : members_of layout 0 ≡ record { slot = 0; here = record { number = 0 } } ∷ record { slot = 1; here = record { number = 1 } } ∷ []
unfolding layout
members_of-first = refl

members_of-other : members_of layout 5 ≡ []
unfolding layout
members_of-other = refl

steps_down : edges_of layout step.Down ≡ record { from = 0; to = 2; here = record { number = 3 } } ∷ record { from = 1; to = 2; here = record { number = 4 } } ∷ []
unfolding layout
steps_down = refl

steps_up : edges_of layout step.Up ≡ record { from = 2; to = 0; here = record { number = 3 } } ∷ record { from = 2; to = 1; here = record { number = 4 } } ∷ []
unfolding layout
steps_up = refl

steps_follow : edges_of layout step.Follow ≡ []
unfolding layout
steps_follow = refl

set : List Member
set = record { slot = 0; here = record { number = 0 } } ∷ record { slot = 2; here = record { number = 2 } } ∷ []

all_listed : list_all (λ m. is_listed layout (0 ∷ 1 ∷ []) m.slot) set ≡ true
unfolding layout set is_listed
all_listed = refl

not_all_listed : list_all (λ m. is_listed layout (0 ∷ []) m.slot) set ≡ false
unfolding layout set is_listed
not_all_listed = refl

past_the_slots : is_listed layout (0 ∷ 1 ∷ []) 3 ≡ false
unfolding layout is_listed
past_the_slots = refl

below : list_all (λ m. nat_lt m.slot 3) set ≡ true
unfolding set
below = refl

not_below : list_all (λ m. nat_lt m.slot 2) set ≡ false
unfolding set
not_below = refl
