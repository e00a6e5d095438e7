-- A device that is read is one that the format allows.
use Rattle.home_types.specs.Kinds.{has_value}
use Rattle.routine_reader.proofs.Prelude.{All, All-nil, BadName, BadState, Bool, Data, DeviceMembers, DeviceValues, DoubleName, Err, IsName, IsSoundDevice, IsSoundDown, IsSoundKind, Kind, List, None, Ok, Option, PlainDevice, Shape, Some, [], arith, as_number, as_str, as_u64, at, at_most, bytes_eq, codes, device_members, device_reading, device_values, device_with, down_in, down_reading, down_within, downs_reading, false, get, has_form, has_states_or_range, if_there, if◌then◌else◌, inside, is_among, is_name, items_in, length, most_downs, most_of_32_bits, nat_le, nat_lt, needed, new_name, next_down, none-some, number_of, ok_or, option_and_then, option_map_or, or_default, place_of, range_with, read_each, refl, rules, state_name, state_names, state_of, states_with, subst, suc, true, value_in, value_within, within_limit, zero, ℕ, ◌&&◌, ◌+◌, ◌<◌, ◌==◌, ◌>>=◌, ◌∷◌, ◌≡◌, ◌≤◌}
use Rattle.home_types.specs.declared.kinds.Kind.TheVariants.{Range, States}
use Rattle.routine_reader.proofs.PrefixLemmas.{each-none}
use Rattle.routine_reader.proofs.WalkSound.{each-after, each-all, each-length, ok-found, ok-if, ok-same, ok-then, ok-unless, ok-within}
use Rattle.routine_reader.specs.declared.faults.Count.TheVariants as count
use Rattle.routine_reader.specs.declared.faults.Part.TheVariants as part
use Rattle.routine_reader.specs.declared.faults.Spot.{Spot}
use Rattle.routine_reader.specs.declared.forms.Form.TheVariants as form
use Rattle.std.proofs.lemmas.List.Quantifiers.{position-Some}

-- ---- what an answer tells

pub and-true : (a b : Bool) → (a && b) ≡ true → (a ≡ true) × (b ≡ true)
and-true true b h = (refl, h)
and-true false b h = absurd (cc)

pub if-some : {T : Type 0} (b : Bool) (o : Option T) (t : T) → (if b then o else None) ≡ Some t → (b ≡ true) × (o ≡ Some t)
if-some true o t h = (refl, h)
if-some false o t h = absurd (none-some t h)

pub then-some : {T U : Type 0} (f : T → Option U) (o : Option T) (u : U) → option_and_then f o ≡ Some u
    → (t : T) × (o ≡ Some t) × (f t ≡ Some u)
then-some f None u h = absurd (none-some u h)
then-some f (Some t) u h = (t, refl, h)

pub some-same : {T : Type 0} (a b : T) → Some a ≡ Some b → a ≡ b
some-same a b h = cc

pub true-below : (a b : ℕ) → nat_lt a b ≡ true → a < b
true-below a b h = search rules

pub below-true : (a b : ℕ) → a < b → nat_lt a b ≡ true
below-true a b h = search rules

pub true-most : (a b : ℕ) → nat_le a b ≡ true → a ≤ b
true-most a b h = search rules

pub most-within : (most a n : ℕ) → at_most most a ≡ Some n → n ≤ most
most-within most a n h =
    let fits = if-some (nat_le a most) (Some a) n h in
    subst (λ m. m ≤ most) (some-same a n fits.1) (true-most a most fits.0)

pub number-within : (value : Data) (n : ℕ) → number_of value ≡ Some n → n ≤ most_of_32_bits
number-within value n h =
    let found = then-some (at_most most_of_32_bits) (option_and_then as_u64 (as_number value)) n h in
    most-within most_of_32_bits found.0 n found.2

pub default-within : (default most : ℕ) (type : Data → Option ℕ) → ((value : Data) (n : ℕ) → type value ≡ Some n → n ≤ most) → default ≤ most
    → (o : Option Data) (n : ℕ) → option_map_or type o (Some default) ≡ Some n → n ≤ most
default-within default most type within fits None n h = subst (λ m. m ≤ most) (some-same default n h) fits
default-within default most type within fits (Some value) n h = within value n h

-- ---- names

pub new-name : (spot : Spot) (names : List (List ℕ)) (text name : List ℕ) → new_name spot names text ≡ Ok name
    → IsName name × (is_among names name ≡ false)
new-name spot names text name h =
    let named = ok-if (is_name text) (if is_among names text then Err (DoubleName spot) else Ok text) (BadName spot) name h in
    let new = ok-unless (is_among names text) (Ok text) (DoubleName spot) name named.1 in
    let same = ok-same text name new.1 in
    (subst IsName same named.0, subst (λ n. is_among names n ≡ false) same new.0)

pub place-within : (names : List (List ℕ)) (name : List ℕ) (place : ℕ) → place_of names name ≡ Some place → place < length names
place-within names name place h = (position-Some (bytes_eq name) names place [] h).0

-- ---- states

state-named : (spot : Spot) (earlier : List (List ℕ)) (value : Data) (name : List ℕ) → state_name spot earlier value ≡ Ok name
    → IsName name × (is_among earlier name ≡ false)
state-named spot earlier value name h =
    let text = ok-then (ok_or (as_str value) (Shape spot)) (λ text. new_name spot earlier text) name h in
    new-name spot earlier text.0 name text.2

pub some-values : (n : ℕ) → (n == 0) ≡ false → 0 < n
some-values zero h = absurd (cc)
some-values (suc n) h = omega arith

states-sound : (spot : Spot) (values : List Data) (names : List (List ℕ)) → state_names spot values ≡ Ok names
    → IsSoundKind (States (length names)) names
unfolding state_names
states-sound spot values names h =
    let some = ok-unless (length values == 0) (within_limit count.States (length values) >>= (λ few. read_each (state_name spot) [] values)) (Shape spot) names h in
    let few = ok-then (within_limit count.States (length values)) (λ few. read_each (state_name spot) [] values) names some.1 in
    let fits = ok-within count.States (length values) few.0 few.1 in
    let count = each-length (state_name spot) [] values names few.2 in
    let least = some-values (length values) some.0 in (
      refl,
      omega (arith, count, least),
      omega (arith, count, fits.0),
      each-all IsName (state_name spot) (λ earlier value name e. (state-named spot earlier value name e).0) [] values names (All-nil IsName) few.2,
      each-after (λ earlier name. is_among earlier name ≡ false) (state_name spot) (λ earlier value name e. (state-named spot earlier value name e).1) [] values names
          (each-none (λ earlier name. is_among earlier name ≡ false)) few.2,
    )

values-sound : (spot : Spot) (states : Option (List Data)) (low high : ℕ) (values : DeviceValues) → high ≤ most_of_32_bits
    → device_values spot states low high ≡ Ok values → IsSoundKind values.kind values.states
unfolding device_values
values-sound spot (Some given) low high values fits h =
    let names = ok-then (state_names spot given) (λ names. Ok (states_with names)) values h in
    subst (λ (v : DeviceValues). IsSoundKind v.kind v.states) (ok-same (states_with names.0) values names.2) (states-sound spot given names.0 names.1)
values-sound spot None low high values fits h =
    let ordered = ok-if (nat_le low high) (Ok (range_with low high)) (BadState spot) values h in
    subst (λ (v : DeviceValues). IsSoundKind v.kind v.states) (ok-same (range_with low high) values ordered.1)
    (refl, true-most low high ordered.0, omega (arith, fits))

-- ---- a value of a device

pub value-suits : (kind : Kind) (states : List (List ℕ)) (value : Data) (v : ℕ) → IsSoundKind kind states → value_in kind states value ≡ Some v
    → has_value kind v ≡ true
value-suits (States n) states value v sound h =
    let text = then-some (place_of states) (as_str value) v h in
    let within = place-within states text.0 v text.2 in
    below-true v n (omega (arith, within, sound.0))
value-suits (Range low high) states value v sound h =
    let number = then-some (value_within (Range low high)) (number_of value) v h in
    let has = if-some (has_value (Range low high) number.0) (Some number.0) v number.2 in
    subst (λ n. has_value (Range low high) n ≡ true) (some-same number.0 v has.1) has.0

-- ---- when it is down

down-both : (from to : ℕ) (down : ℕ × ℕ) → to ≤ most_of_32_bits → down_within from to ≡ Some down → IsSoundDown down
down-both from to down fits h =
    let ordered = if-some (nat_le 1 from && nat_lt from to) (Some (from, to)) down h in
    let tests = and-true (nat_le 1 from) (nat_lt from to) ordered.0 in
    let least = true-most 1 from tests.0 in
    let below = true-below from to tests.1 in
    subst IsSoundDown (some-same (from, to) down ordered.1) (least, below, omega (arith, fits))

down-sound : (values : List Data) (down : ℕ × ℕ) → down_in values ≡ Some down → IsSoundDown down
down-sound [] down h = absurd (none-some down h)
down-sound (value ∷ []) down h = absurd (none-some down h)
down-sound (first ∷ second ∷ third ∷ values) down h = absurd (none-some down h)
down-sound (first ∷ second ∷ []) down h =
    let from = then-some (λ n. option_and_then (down_within n) (number_of second)) (number_of first) down h in
    let to = then-some (down_within from.0) (number_of second) down from.2 in
    down-both from.0 to.0 down (number-within second to.0 to.1) to.2

down-read : (spot : Spot) (value : Data) (down : ℕ × ℕ) → down_reading spot value ≡ Ok down → IsSoundDown down
down-read spot value down h =
    let found = ok-found (option_and_then down_in (items_in value)) (Shape spot) down h in
    let values = then-some down_in (items_in value) down found in
    down-sound values.0 down values.2

downs-sound : (device : ℕ) (values : List Data) (downs : List (ℕ × ℕ)) → downs_reading device values ≡ Ok downs
    → (length downs ≤ most_downs) × All IsSoundDown downs
unfolding downs_reading
downs-sound device values downs h =
    let few = ok-then (within_limit count.Downs (length values)) (λ few. read_each (next_down device) [] values) downs h in
    let fits = ok-within count.Downs (length values) few.0 few.1 in
    let count = each-length (next_down device) [] values downs few.2 in (
      omega (arith, fits.0, count),
      each-all IsSoundDown (next_down device) (λ earlier value down e. down-read (inside part.Down device (length earlier + 1)) value down e) [] values downs (All-nil IsSoundDown) few.2,
    )

-- ---- the device

high-of : (name : Option (List ℕ)) (states : Option (Option (List Data))) (low high : Option ℕ) (start : Option Data) (down : Option (List Data)) (members : DeviceMembers)
    → device_with name states low high start down ≡ Some members → high ≡ Some members.high
high-of (Some name) (Some states) (Some low) (Some high) (Some start) (Some down) members h = cc
high-of None states low high start down members h = absurd (cc)
high-of (Some name) None low high start down members h = absurd (cc)
high-of (Some name) (Some states) None high start down members h = absurd (cc)
high-of (Some name) (Some states) (Some low) None start down members h = absurd (cc)
high-of (Some name) (Some states) (Some low) (Some high) None down members h = absurd (cc)
high-of (Some name) (Some states) (Some low) (Some high) (Some start) None members h = absurd (cc)

high-within : (value : Data) (members : DeviceMembers) → device_members value ≡ Some members → members.high ≤ most_of_32_bits
high-within value members h =
    let name = needed as_str (codes "name") value in
    let states = if_there items_in (codes "states") value in
    let low = or_default number_of 0 (codes "low") value in
    let high = or_default number_of 0 (codes "high") value in
    let start = needed state_of (codes "start") value in
    let down = or_default items_in [] (codes "down") value in
    let whole = if-some (has_form form.Device value && has_states_or_range value) (device_with name states low high start down) members h in
    default-within 0 most_of_32_bits number_of number-within (omega arith) (get (codes "high") value) members.high
    (high-of name states low high start down members whole.1)

-- a device that is read is sound, and its name is new
pub device-sound : (number : ℕ) (names : List (List ℕ)) (value : Data) (device : PlainDevice) → device_reading number names value ≡ Ok device
    → IsSoundDevice device × (is_among names device.name ≡ false)
unfolding device_reading
device-sound number names value device h =
    let spot = at part.Device number in
    let members = ok-then (ok_or (device_members value) (Shape spot)) _ device h in
    let name = ok-then (new_name spot names members.0.name) _ device members.2 in
    let values = ok-then (device_values spot members.0.states members.0.low members.0.high) _ device name.2 in
    let start = ok-then (ok_or (value_in values.0.kind values.0.states members.0.start) (BadState spot)) _ device values.2 in
    let downs = ok-then (downs_reading number members.0.down) _ device start.2 in
    let named = new-name spot names members.0.name name.0 name.1 in
    let high = high-within value members.0 (ok-found (device_members value) (Shape spot) members.0 members.1) in
    let kind = values-sound spot members.0.states members.0.low members.0.high values.0 high values.1 in
    let begun = ok-found (value_in values.0.kind values.0.states members.0.start) (BadState spot) start.0 start.1 in
    let down = downs-sound number members.0.down downs.0 downs.1 in
    let made : PlainDevice = record { name = name.0; kind = values.0.kind; states = values.0.states; start = start.0; downs = downs.0 } in
    subst (λ (d : PlainDevice). IsSoundDevice d × (is_among names d.name ≡ false)) {x = made} (ok-same made device downs.2) (
      record {
        name = named.0;
        kind = kind;
        start = value-suits values.0.kind values.0.states members.0.start start.0 kind begun;
        few_downs = down.0;
        downs = down.1;
      },
      named.1,
    )
