-- The limits that the controller tells other crates: those of the layout.
use Rattle.certificate.specs.Layout.{max_links, max_turns, max_signals, max_modes, max_boxes, max_entries, max_intervals, max_cells, max_cap, max_share, max_pull, max_pull_sum, max_arrival, max_goal_number, max_length, max_scale}
use Rattle.controller.specs.declared.Limits.{Limits}

abbrev pub format_limits : Limits
format_limits =
    record {
      links = max_links;
      turns = max_turns;
      signals = max_signals;
      modes = max_modes;
      boxes = max_boxes;
      entries = max_entries;
      intervals = max_intervals;
      cells = max_cells;
      cap = max_cap;
      share = max_share;
      pull = max_pull;
      pulls = max_pull_sum;
      arrival = max_arrival;
      goals = max_goal_number;
      length = max_length;
      scale = max_scale;
    }
