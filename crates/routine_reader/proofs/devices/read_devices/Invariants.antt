use Rattle.routine_reader.proofs.Prelude.{All, [], device_names, drop, length, map, most_states, next_device_read, plain_device, read_each, view, ◌≡◌, ◌≤◌}
use Rattle.routine_reader.proofs.devices.read_devices.Given as goal

abbrev pub invariant-values : goal.invariant-values
invariant-values l =
    record {
      walk :
          read_each next_device_read [] (map view l.values)
          ≡ read_each next_device_read (map plain_device l.texts.items) (map view (drop l.value-index l.values));
      names : l.names ≡ device_names (map plain_device l.texts.items);
      few : All (λ device. length device.states.items ≤ most_states) l.texts.items;
      count : length l.texts.items ≡ l.value-index;
    }
