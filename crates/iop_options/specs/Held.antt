-- A command as the program holds it.
use Rattle.std.specs.Prelude.{option_map, map, string_bytes}
use Rattle.iop_options.specs.Commands.{Command}
use Rattle.iop_options.specs.declared.options.Options.TheInside.{Inside}

abbrev pub command_held : Inside → Command
command_held o = record {
  budget = o.budget;
  script = option_map string_bytes o.script;
  dump = o.dump;
  ram = o.ram;
  generate = o.generate;
  save = option_map string_bytes o.save;
  restore = option_map string_bytes o.restore;
  modules = map string_bytes o.modules.items;
}
