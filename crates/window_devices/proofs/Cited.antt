-- What proofs of other crates cite of this one: lemmas, and the words in which these are said, by
-- the file in which they stand. Every other file of proofs/ is private.

-- A list with another value at one place.
pub use Rattle.window_devices.proofs.SetPlaces.{get_set}
-- Where a test holds of nothing, nothing is found, and the first number that does is found. What
-- is there is not absent, and what is not there is absent.
pub use Rattle.window_devices.proofs.Finds.{find_first, find_least, find_none, find_same, none_does, none_found, none_there, not_none}
-- What is known of each device, and which grips are out, when one was set.
pub use Rattle.window_devices.proofs.KnownDevices.{device_here, device_there, grips_set, known_same, known_set, place_here, place_there, put_at}
-- The devices of a window that opens: each is home, and known as it is. The places of a list with
-- one more item at its end.
pub use Rattle.window_devices.proofs.OpenedDevices.{There, get_front, get_last, known_as, known_there, none_out, past_end, there, unknown}
-- Of each run of a window, the device whose grip it holds, as devices go out and come home.
pub use Rattle.window_devices.proofs.HeldTokens.{IsOf, hand_goes, hands_come, no_held_tokens, others_hold, probe_goes, run_above, run_hand}
-- How devices are left where they are known to stand.
pub use Rattle.window_devices.proofs.LeftDevices.{left_at, left_size}
