-- What the code's label says.
use Rattle.datatype.specs.declared.label.Label.{Label as Lent}
use Rattle.datatype.specs.Tree.{Label}

abbrev pub label_said : Lent → Label
label_said l =
    record {
      kind = l.kind;
      role = l.role;
      union_id = l.union_id;
      number = l.number;
      scale = l.scale;
      name = l.name.now;
      zone = l.zone.now;
    }
