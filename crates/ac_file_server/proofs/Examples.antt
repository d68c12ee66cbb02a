-- The parts of the text for three turns, written out, and how long they are: by computing, once the decimal of 3 is known.
use Rattle.std.proofs.Common.{◌≡◌, refl, codes, ◌++◌, length, arith}
use Rattle.std.proofs.lemmas.Fmt.{decimal_digit}
use Rattle.std.specs.Fmt.{decimal}
use Rattle.ac_file_server.specs.ServerText.{lines, declared, requests, serving, server_text, client0, client1, client2, load_text}

three_is : decimal 3 ≡ codes "3"
three_is = decimal_digit 3 (omega arith)

pub the_declarations :
    lines declared
    ≡ codes "file one(\"one.dat\");\nfile two(\"two.dat\");\ncore server(serve);\ncore c0(client0);\ncore c1(client1);\ncore c2(client2);\nchannel q0(c0, server, 4);\n"
    ++ codes "channel q1(c1, server, 4);\nchannel q2(c2, server, 4);\nchannel r0(server, c0, 4);\nchannel r1(server, c1, 4);\nchannel r2(server, c2, 4);\n"
the_declarations = refl

pub what_is_done_for_a_request :
    lines requests
    ≡ codes "async int put(int at, int v) {\n  int b[1];\n  int x;\n  int y;\n  b[0] = v;\n  do {\n    async x = Write(one, at, 1, b);\n    async y = Write(two, at, 1, b);\n"
    ++ codes "  } finish;\n  if (x == 1 && y == 1) return 0;\n  return FAULT;\n}\nasync int get(int at) {\n  int b[1];\n  int d[1];\n  int v = FAULT;\n  pair: do {\n"
    ++ codes "    async { int n = Read(one, at, 1, b); if (n == 1) { v = b[0]; cancel pair; } }\n"
    ++ codes "    async { int n = Read(two, at, 1, d); if (n == 1) { v = d[0]; cancel pair; } }\n  } finish;\n  return v;\n}\nasync int handle(int m) {\n"
    ++ codes "  if (m % 2 == 1) m = put(m / 512, m / 2 % 256);\n  else m = get(m / 512);\n  return m;\n}\n"
what_is_done_for_a_request = refl

pub a_thread_for_each_client :
    lines serving
    ≡ codes "async void serve0() {\n  int m;\n  int r;\n  Recv(q0, &m);\n  while (m >= 0) { r = handle(m); Send(r0, r); Recv(q0, &m); }\n}\nasync void serve1() {\n  int m;\n"
    ++ codes "  int r;\n  Recv(q1, &m);\n  while (m >= 0) { r = handle(m); Send(r1, r); Recv(q1, &m); }\n}\nasync void serve2() {\n  int m;\n  int r;\n  Recv(q2, &m);\n"
    ++ codes "  while (m >= 0) { r = handle(m); Send(r2, r); Recv(q2, &m); }\n}\nasync void serve() {\n  do { async serve0(); async serve1(); async serve2(); } finish;\n}\n"
a_thread_for_each_client = refl

pub the_length_without_clients : length server_text ≡ 1327
the_length_without_clients = refl

pub the_first_client :
    lines (client0 3)
    ≡ codes "async void client0() {\n  int j;\n  int s;\n  int v;\n  for (j = 0; j < 3; j = j + 1) {\n    Send(q0, j * 3 * 512 + j * 7 % 256 * 2 + 1);\n    Recv(r0, &v);\n"
    ++ codes "    Send(q0, j * 3 * 512);\n    Recv(r0, &v);\n    s = s + v;\n  }\n  Send(q0, -1);\n  printf(\"%d\\n\", s);\n}\n"
the_first_client = rw three_is refl

pub the_second_client :
    lines (client1 3)
    ≡ codes "async void client1() {\n  int j;\n  int s;\n  int v;\n  for (j = 0; j < 3; j = j + 1) {\n    Send(q1, (j * 3 + 1) * 512 + (j * 7 + 1) % 256 * 2 + 1);\n"
    ++ codes "    Recv(r1, &v);\n    Send(q1, (j * 3 + 1) * 512);\n    Recv(r1, &v);\n    s = s + v;\n  }\n  Send(q1, -1);\n  printf(\"%d\\n\", s);\n}\n"
the_second_client = rw three_is refl

pub the_third_client :
    lines (client2 3)
    ≡ codes "async void client2() {\n  int j;\n  int s;\n  int v;\n  for (j = 0; j < 3; j = j + 1) {\n    Send(q2, (j * 3 + 2) * 512 + (j * 7 + 2) % 256 * 2 + 1);\n"
    ++ codes "    Recv(r2, &v);\n    Send(q2, (j * 3 + 2) * 512);\n    Recv(r2, &v);\n    s = s + v;\n  }\n  Send(q2, -1);\n  printf(\"%d\\n\", s);\n}\n"
the_third_client = rw three_is refl

pub the_length : length (load_text 3) ≡ 2125
the_length = rw three_is refl
